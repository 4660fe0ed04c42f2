-- `chain::change::act_reached` meets its contract.
-- Assumes nothing.
use mathlib.Core.Path.{◌∙◌, ap, sym}
use Rattle.rules.specs.Lamp.{acted}
use Rattle.chain.specs.Places.{with_lamp, reached}
use Rattle.chain.specs.Helpers.{command_in}
use Rattle.chain.proofs.Slots.{with-self, passed-by}
use borrow.Author.Rules.{rules}
use Rattle.chain.proofs.change.act_reached.Goals as goal

pub returns-else-is_reached : goal.returns-else-is_reached
returns-else-is_reached c = let a = c.args in
    sym (with-self a.mem.now a.p.0 (search rules) c.requires)
    ∙ ap (with_lamp a.mem.now a.p.0) (passed-by (reached a.reach) (acted a.d (command_in a.order.number a.order.payload.now)) c.load_lamp.ensures c.is_reached.ensures c.if-is_reached.false)
