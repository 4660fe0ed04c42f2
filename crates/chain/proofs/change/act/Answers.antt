-- `chain::change::act` meets its contract.
-- Assumes nothing.
use mathlib.Core.Path.{◌∙◌, ap, sym}
use Rattle.rules.specs.declared.Lamp.{Lamp}
use Rattle.rules.specs.Lamp.{obeys, changed, acted}
use Rattle.chain.specs.Places.{with_lamp}
use Rattle.chain.specs.Helpers.{command_in}
use Rattle.chain.proofs.Slots.{with-self, picked, passed-by}
use borrow.Author.Rules.{rules}
use Rattle.chain.proofs.change.act.Goals as goal

pub returns-then-heeds : goal.returns-then-heeds
unfolding acted
returns-then-heeds c = let a = c.args in
    c.alter.ensures
    ∙ ap (with_lamp a.mem.now a.p.0) (picked (λ (l : Lamp). obeys a.order.number l.state) (changed a.d (command_in a.order.number a.order.payload.now)) c.load_lamp.ensures c.heeds.ensures c.if-heeds.true)

pub returns-else-heeds : goal.returns-else-heeds
unfolding acted
returns-else-heeds c = let a = c.args in
    sym (with-self a.mem.now a.p.0 (search rules) c.requires)
    ∙ ap (with_lamp a.mem.now a.p.0) (passed-by (λ (l : Lamp). obeys a.order.number l.state) (changed a.d (command_in a.order.number a.order.payload.now)) c.load_lamp.ensures c.heeds.ensures c.if-heeds.false)
