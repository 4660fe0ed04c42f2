-- `capture::next_at` meets its contract: the state is refused, an open reading reads on, another repeats its answer. Assumes nothing.
use Rattle.std.proofs.Common.{◌≡◌, true, sym, ap, ◌∙◌}
use Rattle.telegram.specs.Numbers.{Outcome}
use Rattle.capture.specs.State.{going, standing_of, state_of, is_left}
use Rattle.capture.specs.Calls.{Reply, without}
use Rattle.capture.proofs.States.{next-not, next-by}
use Rattle.capture.proofs.Repeating.{repeats}
use Rattle.capture.proofs.next_at.Goals as goal
use Rattle.capture.proofs.next_at.Goals.{Else-not-is_left}

good : (c : Else-not-is_left) → is_left (state_of c.args.carried) ≡ true
good c = sym c.is_left.ensures ∙ c.if-not-is_left.false

pub returns-then-not-is_left : goal.returns-then-not-is_left
returns-then-not-is_left c = c.bare.ensures ∙ next-not _ _ _ (sym c.is_left.ensures ∙ c.if-not-is_left.true)

pub returns-in_default : goal.returns-in_default
returns-in_default c = let a = c.args in
    c.bare-in_default.ensures ∙ ap (λ (o : Outcome Reply). without o a.at (state_of a.carried)) c.answer_of.ensures
    ∙ sym ((repeats a.carried (good (goal.at.returns-in_default c).Else-not-is_left) c.in_default.not-Open).next a.chunk.now a.at)

pub returns : goal.returns
returns c = c.next_open.ensures ∙ next-by _ _ _ (good (goal.at.returns c).Else-not-is_left) going (ap standing_of c.in-Open.is)
