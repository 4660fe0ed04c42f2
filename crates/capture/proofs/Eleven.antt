-- 11 is exact: every call gives it for a state that no reading leaves, and no call for one that some reading leaves.
-- Assumes nothing.
use Rattle.std.proofs.Common.{◌≡◌, Bool, true, false, ◌≢◌, sym, refl, ap, ◌∙◌, arith}
use Rattle.telegram.specs.Numbers.{Reason, refused_for}
use Rattle.telegram.proofs.Outcomes.{never}
use Rattle.capture.specs.State.{Standing, going, ended, stopped_for, State, is_left}
use Rattle.capture.specs.Run.{run}
use Rattle.capture.specs.Calls.{answer_of, nexting, closing, Scanned}
use Rattle.capture.specs.Uncut.{Taken, LeavesTaken, TakenIsLeft, LeftIsTaken, Eleven, NeverEleven, ElevenExact, EndAndRefusalStay}
use Rattle.capture.proofs.States.{none-stopped, stops_as, stops-low, next-not, end-not, scan-not, scan-left}
use Rattle.capture.proofs.Taken.{leaves-taken}
use Rattle.capture.proofs.Reached.{taken-is-left, left-is-taken}
use Rattle.capture.proofs.Repeating.{end-and-refusal-stay}

-- A state that is taken up was not stopped by 11.
not_stopped : (s : State) (d : Reason) → Taken s → s.standing ≡ stopped_for d → d.number ≢ 11
not_stopped s d t e z = omega (arith, (stops-low d (stops_as d (none-stopped s t.leaves d e).1)).1)

answer-stopped : (k : Standing) (n : Reason) → answer_of k ≡ refused_for n → k ≡ stopped_for n
answer-stopped going n e = absurd (never (sym e))
answer-stopped ended n e = absurd (never (sym e))
answer-stopped (stopped_for d) n e = cc

never-eleven : (s : State) → Taken s → NeverEleven s
unfolding LeavesTaken EndAndRefusalStay
never-eleven s t =
    let l = leaves-taken s t in
    let q = end-and-refusal-stay s t.leaves in
    record {
      next = λ c at d y e. not_stopped (nexting c s at).state d (l.next c at y) (q.next c at d e);
      closing = λ d e. not_stopped (closing s).state d l.closing (answer-stopped _ d (sym q.answer ∙ e));
      scanning = λ c d y e.
          not_stopped (run s c) d (l.bytes c y) (answer-stopped _ d (ap (λ (x : Scanned). x.answer) (scan-left c s t.leaves) ∙ e));
    }

-- A state whose test does not hold.
eleven : (s : State) → is_left s ≡ false → Eleven s
eleven s e = record { next = λ c at. sym (next-not c s at e); closing = sym (end-not s e); scanning = λ c. sym (scan-not c s e) }

eleven-by : (b : Bool) (s : State) → is_left s ≡ b → (is_left s ≡ true → ⊥) → Eleven s
eleven-by true s e f = absurd (f e)
eleven-by false s e f = eleven s e

-- Every call gives 11 for a state that no reading leaves, and none for one that some reading leaves.
pub eleven-exact : ElevenExact
unfolding ElevenExact TakenIsLeft LeftIsTaken
eleven-exact s n y z h = (
  λ f. eleven-by (is_left s) s refl (λ e. f (taken-is-left s (record { long = n; each = y; sums = z; leaves = e }) h)),
  λ x. never-eleven s (left-is-taken s x),
)
