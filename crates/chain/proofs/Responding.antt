-- A telegram and the lamps in memory, exit by exit, as the code goes: everyone, a group, one lamp, a refused one.
-- Assumes nothing.
use mathlib.Core.Path.{◌≡◌, refl, sym, ap, ◌∙◌}
use mathlib.Core.Logic.{◌≢◌}
use mathlib.Core.List.{List, [], ◌∷◌}
use Prim.Native.Nat.{ℕ, ◌<◌}
use lib.ListN.{length, get_or, set}
use borrow.Author.Tests.{eq-eqb, ne_eqb}
use Rattle.telegram.specs.Numbers.{Reason, Outcome, refused_for, done, counted, front, leaves}
use Rattle.telegram.specs.Telegram.{Bytes}
use Rattle.telegram.specs.declared.Address.{Address}
use Rattle.table.specs.declared.Cast.TheVariants.{One}
use Rattle.command.specs.Commands.{Message}
use Rattle.rules.specs.declared.Place.{Place}
use Rattle.rules.specs.declared.Lamp.{Lamp}
use Rattle.rules.specs.Lamp.{acted, answered, with_ce}
use Rattle.rules.specs.Chain.{with_lamps, Walked, walk, reaching, responding, answer_from}
use Rattle.chain.specs.Record.{count_of, lamps_in, decode, hold}
use Rattle.chain.specs.Places.{lamp_at, with_lamp, sweep, acted_in, place_from, held_after}
use Rattle.chain.specs.Helpers.{refused_in, reached_in, cast_of}
use Rattle.std.specs.Prelude.{Some, None}
use Rattle.chain.specs.declared.Reach.{Reach}
use Rattle.chain.specs.declared.Reach.TheVariants.{Everyone as All, Members}
use Rattle.chain.proofs.Places.{length-lamps_in, getD-lamps_in, rest, rest_all, rest_more}
use Rattle.chain.proofs.Sweeps.{each_from}
use Rattle.chain.proofs.Validity.{Valid}
use Rattle.chain.proofs.Records.{hold-decode, hold-set, hold-each}
use Rattle.chain.proofs.Strides.{walk-everyone, walk-group, walk-nobody, walk-found}

-- What a call answers and leaves, of the walk that it is.
pub record Walks (mem room : List ℕ) (w : Walked) (r : Outcome ℕ) (mem' room' : List ℕ) : Type 0 where
  pub answer : r ≡ counted w.outcome
  pub memory : mem' ≡ held_after mem w
  pub lent : room' ≡ leaves w.outcome room

-- The same as a contract has it, and for a walk that is the same.
pub told : {mem room : List ℕ} {w : Walked} {r : Outcome ℕ} {mem' room' : List ℕ} → Walks mem room w r mem' room'
    → record { answer : r ≡ counted w.outcome; memory : mem' ≡ held_after mem w; room : room' ≡ leaves w.outcome room }
told w = record { answer = w.answer; memory = w.memory; room = w.lent }

pub told-as : (mem room : List ℕ) {w u : Walked} {r : Outcome ℕ} {mem' room' : List ℕ} → w ≡ u
    → record { answer : r ≡ counted w.outcome; memory : mem' ≡ held_after mem w; room : room' ≡ leaves w.outcome room }
    → record { answer : r ≡ counted u.outcome; memory : mem' ≡ held_after mem u; room : room' ≡ leaves u.outcome room }
told-as mem room e q =
    record {
      answer = q.answer ∙ ap (λ (x : Walked). counted x.outcome) e;
      memory = q.memory ∙ ap (held_after mem) e;
      room = q.room ∙ ap (λ (x : Walked). leaves x.outcome room) e;
    }

-- A walk that is done with an answer, and one that is refused.
module _ (mem room : List ℕ) {w : Walked} {xs : List Lamp} where
  pub walks-done : {s mem' room' : List ℕ} {r : Outcome ℕ} → w ≡ record { lamps = xs; outcome = done s } → r ≡ counted (done s)
      → mem' ≡ hold mem (with_lamps (decode mem) xs) → room' ≡ front s room → Walks mem room w r mem' room'
  unfolding held_after
  walks-done e a m r =
      record {
        answer = a ∙ sym (ap (λ (x : Walked). counted x.outcome) e);
        memory = m ∙ sym (ap (λ (x : Walked). hold mem (with_lamps (decode mem) x.lamps)) e);
        lent = r ∙ sym (ap (λ (x : Walked). leaves x.outcome room) e);
      }

  pub walks-refused : {r : Reason} {mem' : List ℕ} → w ≡ record { lamps = xs; outcome = refused_for r }
      → mem' ≡ hold mem (with_lamps (decode mem) xs) → Walks mem room w (refused_for r) mem' room
  unfolding held_after
  walks-refused e m =
      record {
        answer = sym (ap (λ (x : Walked). counted x.outcome) e);
        memory = m ∙ sym (ap (λ (x : Walked). hold mem (with_lamps (decode mem) x.lamps)) e);
        lent = sym (ap (λ (x : Walked). leaves x.outcome room) e);
      }

module _ (mem : List ℕ) (b : Bytes mem) (v : Valid mem (decode mem)) where
  -- The lamps in memory as they are.
  pub held_same : mem ≡ hold mem (with_lamps (decode mem) (decode mem).lamps)
  held_same = sym (hold-decode mem b v.room)

  -- Everyone and a group: what each lamp does is the walk.
  pub spread-held : (m : Message) (reach : Reach)
      → sweep (λ (p : ℕ) (l : Lamp). acted_in reach (decode mem).defaults m l) 0 (count_of mem) mem ≡ held_after mem (reached_in mem m (cast_of reach))
  unfolding held_after reached_in decode
  spread-held m reach =
      hold-each mem b v.room (λ (p : ℕ) (l : Lamp). acted_in reach (decode mem).defaults m l)
      ∙ ap (λ (ys : List Lamp). hold mem (with_lamps (decode mem) ys)) (by reach)
    where
      by : (r : Reach)
          → each_from (λ (p : ℕ) (l : Lamp). acted_in r (decode mem).defaults m l) 0 (lamps_in (count_of mem) mem)
          ≡ (walk (reaching (decode mem).defaults m (cast_of r)) 0 (lamps_in (count_of mem) mem)).lamps
      by All = sym (ap (λ (w : Walked). w.lamps) (walk-everyone (decode mem).defaults m 0 (lamps_in (count_of mem) mem)))
      by (Members g) = sym (ap (λ (w : Walked). w.lamps) (walk-group (decode mem).defaults m 0 (lamps_in (count_of mem) mem) g))

  -- Unicast: nobody has the address ..
  pub unicast-nobody : (m : Message) (a : Address) (room : List ℕ) → place_from 0 a.0 (lamps_in (count_of mem) mem) ≡ None
      → Walks mem room (reached_in mem m (One a)) (done 0) mem room
  unfolding reached_in decode
  unicast-nobody m a room e =
      walks-done mem room (walk-nobody (decode mem).defaults m a (lamps_in (count_of mem) mem) 0 e) refl held_same refl

  -- .. or the lamp at the place that was found acts and answers.
  module _ (m : Message) (a : Address) (q : Place) (e : place_from 0 a.0 (lamps_in (count_of mem) mem) ≡ Some q) where
    pub found_in : q.0 < count_of mem
    found_in =
        let h : q.0 < length (lamps_in (count_of mem) mem) = (walk-found (decode mem).defaults m a (lamps_in (count_of mem) mem) q e (lamp_at mem 0)).0 in
        rw length-lamps_in at h

    pub unicast-found : (room : List ℕ) {mem' room' p : List ℕ} {r : Outcome ℕ}
        → mem' ≡ with_lamp mem q.0 (acted (decode mem).defaults m (lamp_at mem q.0))
        → p ≡ answered (decode mem).defaults m (lamp_at mem q.0)
        → r ≡ counted (done (answer_from a.0 m.number p)) → room' ≡ front (answer_from a.0 m.number p) room
        → Walks mem room (reached_in mem m (One a)) r mem' room'
    unfolding reached_in decode
    unicast-found room em ep er eo =
        let d = (decode mem).defaults in
        let n = count_of mem in
        let y = lamp_at mem q.0 in
        let w = (walk-found d m a (lamps_in n mem) q e y).1 in
        let g = getD-lamps_in q.0 n mem y found_in in
        walks-done mem room w
        (er ∙ ap (λ (p : List ℕ). counted (done (answer_from a.0 m.number p))) (ep ∙ ap (answered d m) (sym g)))
        (em ∙ ap (with_lamp mem q.0) (ap (acted d m) (sym g))
        ∙ hold-set mem b v.room q.0 (acted d m (get_or (lamps_in n mem) q.0 y)) found_in)
        (eo ∙ ap (λ (p : List ℕ). front (answer_from a.0 m.number p) room) (ep ∙ ap (answered d m) (sym g)))

  -- A refusal other than 5 changes nothing; 5 sets CE on the lamp at place 0.
  pub refuse-other : (r : Reason) (room : List ℕ) → r.number ≢ 5 → Walks mem room (refused_in mem r) (refused_for r) mem room
  unfolding refused_in responding decode
  refuse-other r room h = walks-refused mem room (rw (ne_eqb r.number 5 h)) held_same

  pub refuse-marks : (r : Reason) (room : List ℕ) → r.number ≡ 5 → {mem' : List ℕ} → mem' ≡ with_lamp mem 0 (with_ce (lamp_at mem 0))
      → Walks mem room (refused_in mem r) (refused_for r) mem' room
  unfolding refused_in responding decode
  refuse-marks r room e em =
      let x = lamp_at mem 0 in
      let xs : lamps_in (count_of mem) mem ≡ x ∷ rest 1 (count_of mem) mem = sym (rest_all (count_of mem) mem) ∙ rest_more 0 (count_of mem) mem v.some in
      walks-refused mem room (rw (eq-eqb r.number 5 e, xs))
      (em ∙ hold-set mem b v.room 0 (with_ce x) v.some
      ∙ ap (λ (ys : List Lamp). hold mem (with_lamps (decode mem) (set ys 0 (with_ce x)))) xs)

-- A command for everyone or a group is done without an answer.
quiet : (mem : List ℕ) (m : Message) (r : Reach) → (reached_in mem m (cast_of r)).outcome ≡ done []
unfolding reached_in
quiet mem m All = ap (λ (w : Walked). w.outcome) (walk-everyone (decode mem).defaults m 0 (decode mem).lamps)
quiet mem m (Members g) = ap (λ (w : Walked). w.outcome) (walk-group (decode mem).defaults m 0 (decode mem).lamps g)

pub reached-done : (mem : List ℕ) (m : Message) (reach : Reach) (room : List ℕ) {mem' : List ℕ} → mem' ≡ held_after mem (reached_in mem m (cast_of reach))
    → record {
      answer : done 0 ≡ counted (reached_in mem m (cast_of reach)).outcome;
      memory : mem' ≡ held_after mem (reached_in mem m (cast_of reach));
      room : room ≡ leaves (reached_in mem m (cast_of reach)).outcome room;
    }
reached-done mem m reach room e =
    let q = sym (quiet mem m reach) in
    record { answer = ap counted q; memory = e; room = ap (λ (o : Outcome (List ℕ)). leaves o room) q }
