-- After an end or a refusal every call repeats the answer. What no bytes change, what the end of an open reading gives, and which
-- refusals bytes give.
-- Assumes nothing.
use Rattle.std.proofs.Common.{◌≡◌, ◌≢◌, ℕ, ◌+◌, Bool, true, false, cond, eqb, ltb, ◌⊎◌, List, [], ◌∷◌, ◌++◌, length, take, drop, sym, refl, ap, ◌∙◌, subst, inl, inr, ⊎_elim, arith, drop_of_length-le, le-ltb, lt-ltb, eq-eqb, ne_eqb}
use Rattle.telegram.specs.Numbers.{Reason, bare, Outcome, refused_for, done}
use Rattle.telegram.specs.Telegram.{reading}
use Rattle.telegram.specs.declared.Telegram.{Telegram}
use Rattle.telegram.proofs.Outcomes.{never}
use Rattle.frame.specs.Frame.{Cutting, incomplete, broken, whole, cutting}
use Rattle.frame.proofs.Cuts.{fault}
use Rattle.frame.proofs.Fronts.{whole-refused}
use Rattle.capture.specs.State.{Standing, going, ended, stopped_for, stopped, standing_of, State, state_of, carrying, resting, carried_in, is_left}
use Rattle.capture.specs.declared.Phase.{Phase}
use Rattle.capture.specs.declared.Phase.TheVariants.{Open, Ended, Stopped}
use Rattle.capture.specs.declared.Reading.{Reading}
use Rattle.capture.specs.Run.{wrapped, judged, grown, fed, fed_by, run, ended_by}
use Rattle.capture.specs.Calls.{Given, without, answer_of, next_judged, next_cut, next_by, Closed, closed, scanned}
use Rattle.capture.specs.Uncut.{Taken, NoBytesNothing, Final, Repeats, EndAndRefusalRepeat, EndAndRefusalStay, EndOfOpen, RefusalsOfBytes}
use Rattle.capture.proofs.States.{left, next-by, end_by, scan-left}
use Rattle.capture.proofs.Runs.{Gives, stays}
use Rattle.capture.proofs.Feeding.{next-none}

-- From a state that has ended or was stopped.
repeat-next : (k : Standing) (l : List ℕ) (s : State) (at : ℕ) → Final k → next_by k l s at ≡ without (answer_of k) at s
repeat-next going l s at f = absurd f
repeat-next ended l s at f = refl
repeat-next (stopped_for d) l s at f = refl

repeat-end : (k : Standing) (s : State) → Final k → ended_by k s ≡ s
repeat-end going s f = absurd f
repeat-end ended s f = refl
repeat-end (stopped_for d) s f = refl

pub end-and-refusal-repeat : EndAndRefusalRepeat
unfolding EndAndRefusalRepeat
end-and-refusal-repeat s e f =
    record {
      next = λ c at. sym (next-by c s at e s.standing refl) ∙ repeat-next s.standing (drop at c) s at f;
      closing = sym (end_by s e s.standing refl) ∙ ap closed (repeat-end s.standing s f);
      scanning = λ c. sym (scan-left c s e) ∙ ap (λ (x : Gives). scanned (length x.1) x.0) (stays s f c);
      bytes = λ l.
          record {
            telegrams = sym (ap (λ (x : Gives). x.1) (stays s f l));
            state = sym (ap (λ (x : Gives). x.0) (stays s f l));
          };
    }

-- So it is for a reading of the code that is not open.
phase-final : (p : Phase) → p ≢ Open → Final (standing_of p)
phase-final Open n = absurd (n refl)
phase-final Ended n = tt
phase-final (Stopped e) n = tt

pub repeats : (r : Reading) → is_left (state_of r) ≡ true → r.phase ≢ Open → Repeats (state_of r)
unfolding EndAndRefusalRepeat
repeats r e n = end-and-refusal-repeat (state_of r) e (phase-final r.phase n)

-- Where the chunk has no more bytes.
none-by : (k : Standing) (s : State) (at : ℕ) → Taken s → s.standing ≡ k → next_by k [] s at ≡ without (answer_of k) at s
none-by going s at t o = sym (next-none s at t.long t.leaves o)
none-by ended s at t o = refl
none-by (stopped_for d) s at t o = refl

pub no-bytes-nothing : NoBytesNothing
unfolding NoBytesNothing
no-bytes-nothing c s at t h =
    sym (next-by c s at t.leaves s.standing refl)
    ∙ ap (λ (l : List ℕ). next_by s.standing l s at) (drop_of_length-le c h) ∙ none-by s.standing s at t refl

-- A refusal leaves the reading stopped for its reason, and the end leaves it ended or stopped.
abbrev Kept : Reason → Given → Type 0
Kept d g = g.answer ≡ refused_for d → g.state.standing ≡ stopped_for d

judged-kept : (o : Outcome Telegram) (c : List ℕ) (k : ℕ) (s : State) (at : ℕ) (n : Reason) → Kept n (next_judged o c k s at)
judged-kept (done t) c k s at n e = absurd (never (sym e))
judged-kept (refused_for d) c k s at n e = cc

cut-kept : (k : Cutting) (w : List ℕ) (m : ℕ) (s : State) (at : ℕ) (n : Reason) → Kept n (next_cut k w m s at)
cut-kept incomplete w m s at n e = absurd (never (sym e))
cut-kept (broken r) w m s at n e = cc
cut-kept (whole k) w m s at n e = judged-kept (reading (take k w)) (take k w) k s at n e

next-kept : (k : Standing) (l : List ℕ) (s : State) (at : ℕ) (n : Reason) → s.standing ≡ k → Kept n (next_by k l s at)
next-kept going l s at n o e = cut-kept (cutting (carried_in s ++ l)) (carried_in s ++ l) (length l) s at n e
next-kept ended l s at n o e = absurd (never (sym e))
next-kept (stopped_for r) l s at n o e = cc

left-final : (a b : Bool) → Final (cond a ended (cond b (stopped 1) (stopped 4)))
left-final true b = tt
left-final false true = tt
left-final false false = tt

end-final : (k : Standing) (s : State) → s.standing ≡ k → Final (ended_by k s).standing
end-final going s o = left-final (eqb s.count 0) (ltb s.count 4)
end-final ended s o = subst Final (sym o) tt
end-final (stopped_for d) s o = subst Final (sym o) tt

pub end-and-refusal-stay : EndAndRefusalStay
unfolding EndAndRefusalStay
end-and-refusal-stay s e =
    let q = end_by s e s.standing refl in
    record {
      next = λ c at n. subst (Kept n) (next-by c s at e s.standing refl) (next-kept s.standing (drop at c) s at n refl);
      over = subst (λ (x : Closed). Final x.state.standing) q (end-final s.standing s refl);
      answer = subst (λ (x : Closed). x.answer ≡ answer_of x.state.standing) q refl;
    }

-- The end of an open reading.
pub end-of-open : EndOfOpen
unfolding EndOfOpen
end-of-open s e o =
    let q = sym (end_by s e going o) in
    record {
      few = (left s e).few;
      none = λ h. rw (eq-eqb s.count 0 h) at q;
      short = λ a b. rw (ne_eqb s.count 0 (λ z. omega arith), lt-ltb s.count 4 b) at q;
      long = λ h. rw (ne_eqb s.count 0 (λ z. omega arith), le-ltb s.count 4 h) at q;
    }

-- What holds of each refusal that bytes give, and of what had stopped a reading, holds of what stops it after any bytes.
abbrev pub Fair : (Reason → Type 0) → State → Type 0
Fair P s = (d : Reason) → s.standing ≡ stopped_for d → P d

fair-going : (P : Reason → Type 0) (s : State) → s.standing ≡ going → Fair P s
fair-going P s o d e = let z : ◌≡◌ {A = ℕ} 0 1 = cc in absurd (omega arith)

fair-stopped : (P : Reason → Type 0) (m : Reason) (p : ℕ) → P m → Fair P (resting (stopped_for m) p)
fair-stopped P m p f d e = let q : m ≡ d = cc in subst P q f

module _ (P : Reason → Type 0) (cut : (n : ℕ) → (n ≡ 2) ⊎ (n ≡ 3) → P (bare n))
    (sum : (w : List ℕ) (k : ℕ) (d : Reason) → cutting w ≡ whole k → reading (take k w) ≡ refused_for d → P d) where
  fair-judged : (w : List ℕ) (k p : ℕ) → cutting w ≡ whole k → (o : Outcome Telegram) → reading (take k w) ≡ o → Fair P (judged o k p)
  fair-judged w k p e (done t) q = fair-going P (carrying [] (wrapped (p + k))) refl
  fair-judged w k p e (refused_for d) q = fair-stopped P d p (sum w k d e q)

  fair-grown : (k : Cutting) (w : List ℕ) (p : ℕ) → cutting w ≡ k → Fair P (grown k w p)
  fair-grown incomplete w p e = fair-going P (carrying w p) refl
  fair-grown (broken m) w p e = fair-stopped P (bare m) p (cut m (fault w m e))
  fair-grown (whole k) w p e = fair-judged w k p e (reading (take k w)) refl

  fair-fed : (k : Standing) (s : State) (b : ℕ) → Fair P s → Fair P (fed_by k s b)
  fair-fed going s b f = fair-grown (cutting (carried_in s ++ b ∷ [])) (carried_in s ++ b ∷ []) s.position refl
  fair-fed ended s b f = f
  fair-fed (stopped_for d) s b f = f

  pub fair-run : (s : State) (l : List ℕ) → Fair P s → Fair P (run s l)
  fair-run s [] f = f
  fair-run s (b ∷ l) f = fair-run (fed s b) l (fair-fed s.standing s b f)

-- The refusals that bytes give.
abbrev OfBytes : Reason → Type 0
OfBytes d = (d.number ≡ 2) ⊎ ((d.number ≡ 3) ⊎ (d.number ≡ 5))

pub refusals-of-bytes : RefusalsOfBytes
unfolding RefusalsOfBytes
refusals-of-bytes s l d o e =
    fair-run OfBytes (λ n. ⊎_elim (λ x. inl x) (λ x. inr (inl x)))
    (λ w k x q r. inr (inr (ap (λ (y : Reason). y.number) (whole-refused w k x q r).reason))) s l
    (fair-going OfBytes s o) d e
