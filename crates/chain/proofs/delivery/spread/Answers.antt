-- `chain::delivery::spread` meets its contract.
-- Assumes nothing.
use mathlib.Core.Path.{◌≡◌, ◌∙◌, ap, ap₂, sym}
use Prim.Native.Nat.{ℕ}
use native.Mathlib.Omega.{arith}
use Rattle.rules.specs.declared.Defaults.{Defaults}
use Rattle.rules.specs.declared.Lamp.{Lamp}
use Rattle.chain.specs.declared.Reach.{Reach}
use Rattle.chain.specs.declared.Reach.TheVariants.{Everyone as All}
use Rattle.chain.specs.Record.{decode}
use Rattle.chain.specs.Places.{sweep, acted_in, held_after}
use Rattle.chain.specs.Helpers.{reached_in, command_in, cast_of}
use Rattle.chain.proofs.Validity.{Valid, chain-in}
use Rattle.chain.proofs.Responding.{spread-held}
use borrow.Author.Rules.{rules}
use Rattle.chain.proofs.delivery.spread.Goals as goal
use Rattle.chain.proofs.delivery.spread.Goals.{After-defaults_of-d, Start}

-- memory holds a chain
valid : (c : Start) → let mem = c.args.mem.now in
    Valid mem (decode mem)
valid c = chain-in _ _ c.requires

-- what each lamp that a reach has does is the walk
held : (c : After-defaults_of-d) (reach : Reach) →
    let a = c.args in
    let m = command_in a.order.number a.order.payload.now in
    sweep (λ (p : ℕ) (l : Lamp). acted_in reach c.defaults_of-d.result m l) 0 c.count_of-count.result a.mem.now
    ≡ held_after a.mem.now (reached_in a.mem.now m (cast_of reach))
unfolding decode
held c reach =
    let a = c.args in
    let m = command_in a.order.number a.order.payload.now in
    ap₂ (λ (d : Defaults) (n : ℕ). sweep (λ (p : ℕ) (l : Lamp). acted_in reach d m l) 0 n a.mem.now) c.defaults_of-d.ensures c.count_of-count.ensures
    ∙ spread-held a.mem.now (search rules) (chain-in _ _ c.requires) m reach

pub count_of-count-requires : goal.count_of-count-requires
unfolding decode
count_of-count-requires c = omega (arith, (valid (goal.at.count_of-count-requires c).Start).room)

pub defaults_of-d-requires : goal.defaults_of-d-requires
unfolding decode
defaults_of-d-requires c = omega (arith, (valid (goal.at.defaults_of-d-requires c).Start).room)

pub act_everyone-requires : goal.act_everyone-requires
unfolding decode
act_everyone-requires c = omega (arith, (valid (goal.at.act_everyone-requires c).Start).room, c.count_of-count.ensures)

pub act_lamps-requires : goal.act_lamps-requires
unfolding decode
act_lamps-requires c = omega (arith, (valid (goal.at.act_lamps-requires c).Start).room, c.count_of-count.ensures)

pub returns-in-Everyone : goal.returns-in-Everyone
unfolding decode
returns-in-Everyone c = let a = c.args in
    c.act_everyone.ensures ∙ held (goal.at.returns-in-Everyone c).After-defaults_of-d All
    ∙ ap (λ (r : Reach). held_after a.mem.now (reached_in a.mem.now (command_in a.order.number a.order.payload.now) (cast_of r))) (sym c.in-Everyone.is)

pub returns-in-Members : goal.returns-in-Members
unfolding decode
returns-in-Members c = c.act_lamps.ensures ∙ held (goal.at.returns-in-Members c).After-defaults_of-d c.args.reach
