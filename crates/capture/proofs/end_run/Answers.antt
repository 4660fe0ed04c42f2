-- `capture::end_run` meets its contract: the state is refused, an open reading ends, another repeats its answer. Assumes nothing.
use Rattle.std.proofs.Common.{◌≡◌, true, sym, ap, ◌∙◌, ap₂}
use Rattle.telegram.specs.Numbers.{Outcome}
use Rattle.capture.specs.State.{Standing, going, standing_of, State, state_of, resting, is_left}
use Rattle.capture.specs.Calls.{Reply, Closed, answer_of}
use Rattle.capture.proofs.States.{end-not, end_by}
use Rattle.capture.proofs.Repeating.{repeats}
use Rattle.capture.proofs.end_run.Goals as goal
use Rattle.capture.proofs.end_run.Goals.{Else-not-is_left}

good : (c : Else-not-is_left) → is_left (state_of c.args.carried) ≡ true
good c = sym c.is_left.ensures ∙ c.if-not-is_left.false

abbrev told : Outcome Reply → State → Closed
told o s = record { answer = o; state = s }

pub returns-then-not-is_left : goal.returns-then-not-is_left
returns-then-not-is_left c = end-not _ (sym c.is_left.ensures ∙ c.if-not-is_left.true)

pub returns-in_default : goal.returns-in_default
returns-in_default c = let a = c.args in
    ap (λ (o : Outcome Reply). told o (state_of a.carried)) c.answer_of.ensures
    ∙ sym (repeats a.carried (good (goal.at.returns-in_default c).Else-not-is_left) c.in_default.not-Open).closing

pub returns : goal.returns
returns c = let e = c.left_over-last.ensures in
    ap₂ told (c.answer_of-2.ensures ∙ ap answer_of e)
    (c.resting.ensures ∙ ap (λ (k : Standing). resting k c.args.carried.position) e)
    ∙ end_by _ (good (goal.at.returns c).Else-not-is_left) going (ap standing_of c.in-Open.is)
