-- The functions on memory are the calls on the state that it holds; so after an end or a refusal they repeat, byte for byte.
-- Assumes nothing.
use Rattle.std.proofs.Common.{◌≡◌, ℕ, ◌≤◌, Bool, true, false, cond, eqb, ltb, List, [], ◌∷◌, length, drop, sym, refl, ap, ◌∙◌, subst, arith, le-ltb, ne_eqb}
use Rattle.telegram.specs.Numbers.{Outcome, refused_for, done}
use Rattle.telegram.specs.Telegram.{Bytes}
use Rattle.telegram.proofs.Outcomes.{fit-done}
use Rattle.capture.specs.State.{Standing, going, ended, stopped_for, State}
use Rattle.capture.specs.Calls.{Reply, telegram, more, over, Given, without, answer_of, nexting, closed, closing, told_by, told}
use Rattle.capture.specs.Uncut.{Taken, Position, TakenIsLeft, ElevenExact, NeverEleven, LeavesTaken, Final, EndAndRefusalRepeat}
use Rattle.capture.proofs.Taken.{leaves-taken}
use Rattle.capture.proofs.Reached.{taken-is-left}
use Rattle.capture.proofs.Repeating.{end-and-refusal-repeat}
use Rattle.capture.proofs.Eleven.{eleven-exact}
use Rattle.reader.specs.Layout.{holding}
use Rattle.reader.specs.Interface.{Called, written, kept_by, answering, Ended, end_answering, reader_next}
use Rattle.reader.specs.Kept.{StateComesBack, HeldStays, TakenIn, replied, silent, NextInMemory, EndInMemory, AsOnTheState, told_in, EndAndRefusalRepeatInMemory}
use Rattle.reader.proofs.States.{state-long}
use Rattle.reader.proofs.Few.{Fits, next_fits, next-position, end-position}
use Rattle.reader.proofs.Exits.{next-told, end-told, position-by}
use Rattle.reader.proofs.Back.{state-comes-back}
use Rattle.reader.proofs.Holding.{held_stays, held-taken, held-position, kept-taken}

-- Bytes that were written are a telegram, unless they are none.
one_told : (w : List ℕ) → 1 ≤ length w → told_in (done w) ≡ w ∷ []
one_told [] l = absurd (omega arith)
one_told (b ∷ w) l = refl

module _ (s : State) (mem : List ℕ) (k : TakenIn s mem) where
  -- No call gives 11.
  pub no-eleven : NeverEleven s
  unfolding ElevenExact TakenIsLeft
  no-eleven =
      let t = held-taken s mem k in
      let p = held-position s mem k in
      (eleven-exact s t.long t.each t.sums p).1 (taken-is-left s t p)

  -- A state that was kept.
  module _ (z : State) (t : Taken z) (p : Position z.position) where
    abbrev Kept : List ℕ → Type 0
    Kept m = TakenIn z m × (drop 21 m ≡ drop 21 mem)

    kept : Kept (holding z mem)
    unfolding StateComesBack
    kept =
        let h = state-long mem s k.holds in
        (kept-taken z mem t p h k.each, (state-comes-back z mem t p h).behind)

    kept-refused : (n : ℕ) → (n ≡ 11 → ⊥) → Kept (kept_by n z mem)
    kept-refused n f = rw (ne_eqb n 11 f) kept

  -- The next telegram, by what the call on the state answers.
  module _ (c : List ℕ) (at room : ℕ) (y : Bytes c) (h : 12 ≤ room) where
    abbrev g : Given
    g = nexting c s at

    fits : Fits at g
    fits = next_fits c s at (held-taken s mem k).each y

    left : Taken g.state
    unfolding LeavesTaken
    left = (leaves-taken s (held-taken s mem k)).next c at y

    below : Position g.state.position
    below = next-position s (held-taken s mem k) (held-position s mem k) c at

    short : (r : Reply) → g.answer ≡ done r → length (written r g.bytes) ≤ room
    short (telegram t) e = omega (arith, fits.size t e, fits.count t e)
    short more e = omega arith
    short over e = omega arith

    next-as : (o : Outcome Reply) → g.answer ≡ o → NextInMemory mem g (answering o g room mem at)
    next-as (refused_for d) e =
        let q = kept-refused g.state left below d.number (no-eleven.next c at d y e) in
        record {
          outcome = sym (ap (λ (o : Outcome Reply). replied o (λ (r : Reply). written r g.bytes)) e);
          at = fits.stays d e;
          state = q.0;
          behind = q.1;
        }
    next-as (done r) e =
        let f = le-ltb room (length (written r g.bytes)) (short r e) in
        let q = kept g.state left below in
        record {
          outcome = fit-done room _ (short r e) ∙ sym (ap (λ (o : Outcome Reply). replied o (λ (r : Reply). written r g.bytes)) e);
          at = ap (λ (b : Bool). cond b at g.at) f;
          state = rw f q.0;
          behind = rw f q.1;
        }

    -- So it writes the telegram that the call gives.
    told-as : (o : Outcome Reply) → g.answer ≡ o → told_in (replied o (λ (r : Reply). written r g.bytes)) ≡ told_by o g.bytes
    told-as (refused_for d) e = refl
    told-as (done more) e = refl
    told-as (done over) e = refl
    told-as (done (telegram t)) e = one_told (written (telegram t) g.bytes) (omega (arith, fits.count t e))

  -- The end.
  end-as : (o : Outcome Reply) → (closing s).answer ≡ o → EndInMemory mem (closing s) (end_answering o (closing s).state mem)
  unfolding LeavesTaken
  end-as (refused_for d) e =
      let t = held-taken s mem k in
      let q = kept-refused (closing s).state (leaves-taken s t).closing (end-position s t (held-position s mem k)) d.number (no-eleven.closing d e) in
      record { outcome = sym (ap silent e); state = q.0; behind = q.1 }
  end-as (done r) e =
      let t = held-taken s mem k in
      let q = kept (closing s).state (leaves-taken s t).closing (end-position s t (held-position s mem k)) in
      record { outcome = sym (ap silent e); state = q.0; behind = q.1 }

-- The functions on memory.
pub as-on-the-state : AsOnTheState
unfolding AsOnTheState
as-on-the-state s mem k =
    record {
      next = λ c at room y h.
          subst (NextInMemory mem (nexting c s at)) (next-told mem c at room s (nexting c s at) k.holds refl)
          (next-as s mem k c at room y h (nexting c s at).answer refl);
      end = subst (EndInMemory mem (closing s)) (end-told mem s (closing s) k.holds refl) (end-as s mem k (closing s).answer refl);
      position = sym (position-by mem s true k.holds k.leaves);
    }

-- The telegram that a call writes.
pub told_in_lem : (s : State) (mem : List ℕ) → TakenIn s mem → (c : List ℕ) (at room : ℕ) → Bytes c → 12 ≤ room
    → told_in (reader_next mem c at room).outcome ≡ told (nexting c s at)
unfolding AsOnTheState
told_in_lem s mem k c at room y h =
    ap told_in ((as-on-the-state s mem k).next c at room y h).outcome ∙ told-as s mem k c at room y h (nexting c s at).answer refl

-- After an end or a refusal.
module _ (s : State) (mem : List ℕ) (stays : holding s mem ≡ mem) where
  either : (b : Bool) → cond b mem (holding s mem) ≡ mem
  either true = refl
  either false = stays

  repeat-next : (k : Standing) (at room : ℕ) → Final k
      → ◌≡◌ {A = Called} (answering (answer_of k) (without (answer_of k) at s) room mem at)
      (record { outcome = silent (answer_of k); memory = mem; at = at })
  repeat-next going at room f = absurd f
  repeat-next ended at room f =
      let l = le-ltb room 0 (omega arith) in
      λ i. record { outcome = fit-done room [] (omega arith) i; memory = either (ltb room 0) i; at = ap (λ (b : Bool). cond b at at) l i }
  repeat-next (stopped_for d) at room f = λ i. record { outcome = refused_for d; memory = either (eqb d.number 11) i; at = at }

  repeat-end : (k : Standing) → Final k
      → ◌≡◌ {A = Ended} (end_answering (answer_of k) s mem) (record { outcome = silent (answer_of k); memory = mem })
  repeat-end going f = absurd f
  repeat-end ended f = λ i. record { outcome = done []; memory = stays i }
  repeat-end (stopped_for d) f = λ i. record { outcome = refused_for d; memory = either (eqb d.number 11) i }

pub end-and-refusal-repeat-in-memory : EndAndRefusalRepeatInMemory
unfolding EndAndRefusalRepeatInMemory EndAndRefusalRepeat HeldStays
end-and-refusal-repeat-in-memory s mem k f =
    let q = end-and-refusal-repeat s k.leaves f in
    let w = held_stays s mem k.each k.holds in
    record {
      next = λ c at room.
          sym (next-told mem c at room s (without (answer_of s.standing) at s) k.holds (sym (q.next c at)))
          ∙ repeat-next s mem w s.standing at room f;
      end = sym (end-told mem s (closed s) k.holds (sym q.closing)) ∙ repeat-end s mem w s.standing f;
    }
