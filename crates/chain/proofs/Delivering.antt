-- Delivery on memory: 9, 11, and else what the lamps in memory do with what the dissector gave.
-- Assumes nothing.
use mathlib.Core.Path.{◌≡◌, refl, sym, ap, ◌∙◌}
use mathlib.Core.Bool.{true}
use mathlib.Core.List.{List}
use Prim.Native.Nat.{ℕ, ◌%◌, ◌≤◌, ◌<◌}
use native.Mathlib.Omega.{arith}
use lib.ListN.{get_or}
use borrow.Author.Tests.{lt-ltb, le-ltb}
use Rattle.telegram.specs.Numbers.{Reason, Outcome, refused, done, counted, leaves}
use Rattle.telegram.specs.Telegram.{reading}
use Rattle.telegram.specs.declared.Telegram.{Telegram}
use Rattle.telegram.proofs.Reading.{framed, accepted}
use Rattle.table.specs.Casts.{cast_in_range}
use Rattle.table.proofs.Destinations.{reached as in-range}
use Rattle.command.specs.Commands.{Sent, dissecting}
use Rattle.command.proofs.Naming.{named, dissected}
use Rattle.rules.specs.Chain.{delivering, deliver, responding}
use Rattle.chain.specs.Record.{decode, chain_in}
use Rattle.chain.specs.Places.{held_after}
use Rattle.chain.specs.Memory.{Left, delivered}
use Rattle.chain.specs.Helpers.{delivered_in, refused_in}

-- Delivery: 9, 11, and else what the lamps in memory do with what the dissector gave.
module _ (mem s : List ℕ) (room : ℕ) where
  pub deliver-room : room < 12 → delivered mem s room ≡ record { memory = mem; outcome = refused 9 }
  unfolding delivered
  deliver-room h = simp (lt-ltb room 12 h)

  pub deliver-invalid : 12 ≤ room → chain_in mem ≡ refused 11 → delivered mem s room ≡ record { memory = mem; outcome = refused 11 }
  unfolding delivered
  deliver-invalid h e = simp (le-ltb room 12 h, e)

  pub deliver-walks : 12 ≤ room → chain_in mem ≡ done (decode mem)
      → delivered mem s room ≡ record { memory = held_after mem (delivered_in mem s); outcome = (delivered_in mem s).outcome }
  unfolding delivered delivered_in held_after deliver delivering
  deliver-walks h e = simp (le-ltb room 12 h, e)

-- What the dissector accepts has a cast that can be sent to.
pub accepted-cast : (s : List ℕ) (t : Sent) → dissecting s ≡ done t → cast_in_range t.cast ≡ true
accepted-cast s t e =
    let d = dissected s e in
    (in-range d.0.address.0 t.cast (named s d.0 t d.1.1).to).range

-- What the reader accepts has a number that an answer may have.
pub accepted-number : (s : List ℕ) (t : Telegram) → reading s ≡ done t → t.command ≤ 127
accepted-number s t e =
    let f : get_or s 2 0 % 128 ≡ t.command = ap (λ (x : Telegram). x.command) (framed s t (accepted s t e).0).fields in
    omega arith

-- What delivery answers and leaves, of what it comes to.
pub left_as : (room : List ℕ) {l x : Left} {r : Outcome ℕ} {mem' room' : List ℕ} → l ≡ x
    → r ≡ counted x.outcome → mem' ≡ x.memory → room' ≡ leaves x.outcome room
    → record { answer : r ≡ counted l.outcome; memory : mem' ≡ l.memory; room : room' ≡ leaves l.outcome room }
left_as room e a m o =
    record {
      answer = a ∙ sym (ap (λ (y : Left). counted y.outcome) e);
      memory = m ∙ sym (ap (λ (y : Left). y.memory) e);
      room = o ∙ sym (ap (λ (y : Left). leaves y.outcome room) e);
    }

-- What the lamps in memory do is what they do with what the dissector gives.
pub delivered-as : (mem s : List ℕ) {o : Outcome Sent} → dissecting s ≡ o → responding (decode mem).defaults (decode mem).lamps o ≡ delivered_in mem s
unfolding delivered_in
delivered-as mem s e = rw e

-- A refused telegram leaves the room.
pub refused-told : (mem room : List ℕ) (d : Reason) {r : Outcome ℕ} {mem' : List ℕ}
    → record { answer : r ≡ counted (refused_in mem d).outcome; memory : mem' ≡ held_after mem (refused_in mem d) }
    → record {
      answer : r ≡ counted (refused_in mem d).outcome;
      memory : mem' ≡ held_after mem (refused_in mem d);
      room : room ≡ leaves (refused_in mem d).outcome room;
    }
unfolding refused_in responding
refused-told mem room d e = record { answer = e.answer; memory = e.memory; room = refl }
