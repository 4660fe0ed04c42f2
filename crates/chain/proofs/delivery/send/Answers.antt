-- `chain::delivery::send` meets its contract: an init by its number and cast, else by the cast.
-- Assumes nothing.
use mathlib.Core.Path.{◌≡◌, ◌∙◌, ap, sym}
use mathlib.Core.Bool.{true}
use Rattle.table.specs.declared.Cast.{Cast}
use Rattle.rules.specs.Chain.{is_init}
use Rattle.chain.specs.declared.Reach.TheVariants.{Everyone as All, Members}
use Rattle.chain.specs.Record.{decode}
use Rattle.chain.specs.Helpers.{walked_in, reached_in, command_in, sent_in}
use Rattle.chain.proofs.Responding.{told-as, reached-done}
use Rattle.chain.proofs.Inits.{walked-plain, walked-init, permit-alike}
use Rattle.chain.proofs.delivery.send.Goals as goal
use Rattle.chain.proofs.delivery.send.Goals.{Else-is_init, Then-is_init}

-- it is an init
init : (c : Then-is_init) → is_init c.args.order.number ≡ true
init c = sym c.is_init.ensures ∙ c.if-is_init.true

-- no init: the walk by the cast
plain : {cast : Cast} (c : Else-is_init) → let a = c.args in
    a.order.cast ≡ cast → reached_in a.mem.now (command_in a.order.number a.order.payload.now) cast ≡ walked_in a.mem.now (sent_in a.order.number a.order.payload.now a.order.cast)
plain c e =
    let a = c.args in
    ap (reached_in a.mem.now (command_in a.order.number a.order.payload.now)) (sym e)
    ∙ sym (walked-plain a.mem.now (sent_in a.order.number a.order.payload.now a.order.cast) (sym c.is_init.ensures ∙ c.if-is_init.false))

pub initialise-requires : goal.initialise-requires
initialise-requires c = let p = c.requires in
    let a = c.args in
    let i = init (goal.at.initialise-requires c).Then-is_init in
    (p.0, i, permit-alike (decode a.mem.now).lamps a.order.number a.order.payload.now a.order.cast i p.1)

pub returns-then-is_init : goal.returns-then-is_init
returns-then-is_init c = let a = c.args in
    told-as a.mem.now a.room.now (sym (walked-init a.mem.now (sent_in a.order.number a.order.payload.now a.order.cast) (init (goal.at.returns-then-is_init c).Then-is_init))) c.initialise.ensures

pub returns-in-Everyone : goal.returns-in-Everyone
returns-in-Everyone c = let a = c.args in
    told-as a.mem.now a.room.now (plain (goal.at.returns-in-Everyone c).Else-is_init c.in-Everyone.is) (reached-done a.mem.now (command_in a.order.number a.order.payload.now) All a.room.now c.spread.ensures)

pub returns-in-One : goal.returns-in-One
returns-in-One c = let a = c.args in
    told-as a.mem.now a.room.now (plain (goal.at.returns-in-One c).Else-is_init c.in-One.is) c.unicast.ensures

pub returns-in-Group : goal.returns-in-Group
returns-in-Group c = let a = c.args in
    told-as a.mem.now a.room.now (plain (goal.at.returns-in-Group c).Else-is_init c.in-Group.is) (reached-done a.mem.now (command_in a.order.number a.order.payload.now) (Members c.in-Group.g) a.room.now c.spread-in-Group.ensures)
