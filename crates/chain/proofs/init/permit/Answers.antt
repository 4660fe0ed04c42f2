-- `chain::init::permit` meets its contract: an init by its cast.
-- Assumes nothing.
use mathlib.Core.Path.{◌≡◌, ◌∙◌, ap, sym}
use mathlib.Core.Bool.{true}
use Rattle.rules.specs.Chain.{is_init, permitting_init}
use Rattle.chain.specs.Record.{decode}
use Rattle.chain.specs.Helpers.{sent_in}
use Rattle.chain.proofs.Inits.{permit-plain, permit-init}
use Rattle.chain.proofs.init.permit.Goals as goal
use Rattle.chain.proofs.init.permit.Goals.{Else-not-is_init}

-- it is an init
init : (c : Else-not-is_init) → is_init c.args.order.number ≡ true
init c = sym c.is_init.ensures ∙ c.if-not-is_init.false

pub returns-then-not-is_init : goal.returns-then-not-is_init
returns-then-not-is_init c = let a = c.args in
    permit-plain (decode a.mem.now).lamps a.order.number a.order.payload.now a.order.cast (sym c.is_init.ensures ∙ c.if-not-is_init.true)

pub returns-in-Everyone : goal.returns-in-Everyone
returns-in-Everyone c = let a = c.args in
    let xs = (decode a.mem.now).lamps in
    c.permit_all.ensures (sent_in a.order.number a.order.payload.now a.order.cast) ∙ ap (permitting_init xs (sent_in a.order.number a.order.payload.now a.order.cast)) (sym c.in-Everyone.is) ∙ permit-init xs a.order.number a.order.payload.now a.order.cast (init (goal.at.returns-in-Everyone c).Else-not-is_init)

pub returns-in-One : goal.returns-in-One
returns-in-One c = let a = c.args in
    let xs = (decode a.mem.now).lamps in
    c.permit_from.ensures (sent_in a.order.number a.order.payload.now a.order.cast) ∙ ap (permitting_init xs (sent_in a.order.number a.order.payload.now a.order.cast)) (sym c.in-One.is) ∙ permit-init xs a.order.number a.order.payload.now a.order.cast (init (goal.at.returns-in-One c).Else-not-is_init)

pub returns-in-Group : goal.returns-in-Group
returns-in-Group c = let a = c.args in
    let xs = (decode a.mem.now).lamps in
    ap (permitting_init xs (sent_in a.order.number a.order.payload.now a.order.cast)) (sym c.in-Group.is) ∙ permit-init xs a.order.number a.order.payload.now a.order.cast (init (goal.at.returns-in-Group c).Else-not-is_init)
