-- What each call on memory comes to, exit by exit: making a chain, reading a lamp out, a sensor report, an answer.
-- Assumes nothing.
use mathlib.Core.Path.{◌≡◌, refl, sym, ap, ◌∙◌}
use mathlib.Core.Bool.{Bool, true, false, cond}
use mathlib.Core.List.{List, [], ◌∷◌}
use Prim.Native.Nat.{ℕ, ◌+◌, ◌≤◌, ◌<◌}
use native.Mathlib.Omega.{arith}
use lib.ListN.{length, set, take}
use borrow.Author.Tests.{lt-ltb, le-ltb}
use Rattle.telegram.specs.Numbers.{Reason, Outcome, refused_for, refused, done, counted, front, leaves}
use Rattle.telegram.specs.Telegram.{telegram_of, building}
use Rattle.telegram.proofs.Building.{Sendable, listed_le, build-done}
use Rattle.rules.specs.declared.Defaults.{Defaults}
use Rattle.rules.specs.Lamp.{sensed}
use Rattle.rules.specs.Chain.{Chain, with_lamps, count_right, fresh, sensing, answer_from}
use Rattle.chain.specs.Record.{record_length, count_of, lamps_in, decode, hold, chain_in}
use Rattle.chain.specs.Places.{lamp_at}
use Rattle.chain.specs.Memory.{held, silent, made, sensed_in, lamp_read}
use Rattle.chain.proofs.Places.{lamp_in-at, lamp_in-none}

-- A test of memory, that it held and that it did not.
pub chain-yes : (mem : List ℕ) (r : Bool) → cond r (done (decode mem)) (refused 11) ≡ chain_in mem → r ≡ true → chain_in mem ≡ done (decode mem)
chain-yes mem r e t = sym e ∙ ap (λ (b : Bool). cond b (done (decode mem)) (refused 11)) t

pub chain-no : (mem : List ℕ) (r : Bool) → cond r (done (decode mem)) (refused 11) ≡ chain_in mem → r ≡ false → chain_in mem ≡ refused 11
chain-no mem r e f = sym e ∙ ap (λ (b : Bool). cond b (done (decode mem)) (refused 11)) f

-- What a call that refuses or gives a chain answers and leaves.
module _ (mem : List ℕ) (o : Outcome Chain) where
  pub held-refused : {d : Reason} → o ≡ refused_for d → record { answer : refused_for d ≡ silent o; memory : mem ≡ held mem o }
  held-refused e = record { answer = sym (ap silent e); memory = sym (ap (held mem) e) }

  pub held-done : {c : Chain} {left : List ℕ} → o ≡ done c → left ≡ hold mem c
      → record { answer : done 0 ≡ silent o; memory : left ≡ held mem o }
  held-done e l = record { answer = sym (ap silent e); memory = l ∙ sym (ap (held mem) e) }

-- Making a chain: 11, 9, done.
module _ (mem : List ℕ) (n : ℕ) (d : Defaults) where
  pub made-count : count_right n ≡ false → made mem n d ≡ refused 11
  unfolding made
  made-count h = simp h

  pub made-room : count_right n ≡ true → length mem < record_length n → made mem n d ≡ refused 9
  unfolding made
  made-room h k = simp (h, lt-ltb _ _ k)

  pub made-done : count_right n ≡ true → record_length n ≤ length mem → made mem n d ≡ done (fresh n d)
  unfolding made
  made-done h k = simp (h, le-ltb _ _ k)

-- Reading the lamp at a place out: 11, 13, done.
module _ (mem : List ℕ) (p : ℕ) where
  pub read-invalid : chain_in mem ≡ refused 11 → lamp_read mem p ≡ refused 11
  unfolding lamp_read
  read-invalid e = simp e

  pub read-nowhere : chain_in mem ≡ done (decode mem) → count_of mem ≤ p → lamp_read mem p ≡ refused 13
  unfolding lamp_read decode
  read-nowhere e h = rw e (lamp_in-none p (count_of mem) mem h)

  pub read_done : chain_in mem ≡ done (decode mem) → p < count_of mem → lamp_read mem p ≡ done (lamp_at mem p)
  unfolding lamp_read decode
  read_done e h = rw e (lamp_in-at p (count_of mem) mem h)

  -- A sensor report: 11, 13, 10, done.
  module _ (t faults : ℕ) where
    pub sense-invalid : chain_in mem ≡ refused 11 → sensed_in mem p t faults ≡ refused 11
    unfolding sensed_in
    sense-invalid e = simp e

    pub sense-nowhere : chain_in mem ≡ done (decode mem) → count_of mem ≤ p → sensed_in mem p t faults ≡ refused 13
    unfolding sensed_in sensing decode
    sense-nowhere e h = rw e (rw (lamp_in-none p (count_of mem) mem h))

    pub sense-range : chain_in mem ≡ done (decode mem) → p < count_of mem → 7 < faults → sensed_in mem p t faults ≡ refused 10
    unfolding sensed_in sensing decode
    sense-range e h k = rw e (rw (lamp_in-at p (count_of mem) mem h, lt-ltb 7 faults k))

    pub sense-done : chain_in mem ≡ done (decode mem) → p < count_of mem → faults ≤ 7
        → sensed_in mem p t faults ≡ done (with_lamps (decode mem) (set (lamps_in (count_of mem) mem) p (sensed t faults (lamp_at mem p))))
    unfolding sensed_in sensing decode
    sense-done e h k = rw e (rw (lamp_in-at p (count_of mem) mem h, le-ltb 7 faults k))

-- The answer of a lamp: no bytes leave the room as it is, some are the telegram that the raw builder makes.
module _ (a n : ℕ) (room : List ℕ) where
  pub answer-none : {k : ℕ} (bytes : List ℕ) → k ≡ 0
      → record {
        answer : done 0 ≡ counted (done (answer_from a n (take k bytes)));
        room : room ≡ front (answer_from a n (take k bytes)) room;
      }
  answer-none bytes e =
      record {
        answer = sym (ap (λ (k : ℕ). counted (done (answer_from a n (take k bytes)))) e);
        room = sym (ap (λ (k : ℕ). front (answer_from a n (take k bytes)) room) e);
      }

  answer-some : (q : List ℕ) → (length q ≡ 0 → ⊥) → telegram_of a n q ≡ answer_from a n q
  answer-some [] h = absurd (h refl)
  answer-some (x ∷ q) h = refl

  pub answer-built : (p : List ℕ) {r : Outcome ℕ} {left : List ℕ} → Sendable a n p → 12 ≤ length room → (length p ≡ 0 → ⊥)
      → r ≡ counted (building a n p (length room)) → left ≡ leaves (building a n p (length room)) room
      → record { answer : r ≡ counted (done (answer_from a n p)); room : left ≡ front (answer_from a n p) room }
  answer-built p s h k e l =
      let fits : 4 + length p ≤ length room = omega (arith, listed_le (length p) s.size) in
      let b = build-done a n p (length room) s fits ∙ ap done (answer-some p k) in
      record { answer = e ∙ ap counted b; room = l ∙ ap (λ (o : Outcome (List ℕ)). leaves o room) b }
