-- `reader::position_of` meets its contract. Assumes nothing.
use Rattle.std.proofs.Common.{true, false, sym, ap, ◌∙◌}
use Rattle.reader.specs.Layout.{held_as}
use Rattle.reader.proofs.Exits.{position-none, position-by}
use Rattle.reader.proofs.position_of.Goals as goal

pub returns-then-is_left : goal.returns-then-is_left
returns-then-is_left c = position-by _ _ true (sym c.read_state.ensures ∙ ap held_as c.in-Some.is) (sym c.is_left.ensures ∙ c.if-is_left.true)

pub returns-else-is_left : goal.returns-else-is_left
returns-else-is_left c = position-by _ _ false (sym c.read_state.ensures ∙ ap held_as c.in-Some.is) (sym c.is_left.ensures ∙ c.if-is_left.false)

pub returns-in_default : goal.returns-in_default
returns-in_default c = position-none _ (sym c.read_state.ensures ∙ ap held_as c.in_default.is)
