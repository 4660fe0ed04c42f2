-- `chain::change::light_one` meets its contract.
-- Assumes nothing.
use mathlib.Core.Path.{◌∙◌, ap, sym}
use Rattle.rules.specs.declared.Lamp.{Lamp}
use Rattle.rules.specs.Lamp.{obeys, with_pwm}
use Rattle.chain.specs.Places.{with_lamp}
use Rattle.chain.proofs.Slots.{with-self, picked, passed-by}
use borrow.Author.Rules.{rules}
use Rattle.chain.proofs.change.light_one.Goals as goal

pub returns-then-heeds : goal.returns-then-heeds
returns-then-heeds c = let a = c.args in
    c.store_lamp.ensures
    ∙ ap (with_lamp a.mem.now a.p.0) (ap (with_pwm a.sent) c.load_lamp-l.ensures ∙ picked (λ (l : Lamp). obeys 0x4F l.state) (with_pwm a.sent) c.load_lamp-l.ensures c.heeds.ensures c.if-heeds.true)

pub returns-else-heeds : goal.returns-else-heeds
returns-else-heeds c = let a = c.args in
    sym (with-self a.mem.now a.p.0 (search rules) c.requires)
    ∙ ap (with_lamp a.mem.now a.p.0) (passed-by (λ (l : Lamp). obeys 0x4F l.state) (with_pwm a.sent) c.load_lamp-l.ensures c.heeds.ensures c.if-heeds.false)
