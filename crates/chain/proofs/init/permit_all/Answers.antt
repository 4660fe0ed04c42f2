-- `chain::init::permit_all` meets its contract: as the test of all lamps says.
-- Assumes nothing.
use mathlib.Core.Bool.{true, false}
use native.Mathlib.Omega.{arith}
use Rattle.chain.specs.Record.{decode}
use borrow.Author.Rules.{rules}
use Rattle.chain.proofs.Validity.{Valid, chain-in}
use Rattle.chain.proofs.Inits.{permit-tested}
use Rattle.chain.proofs.init.permit_all.Goals as goal
use Rattle.chain.proofs.init.permit_all.Goals.{Start}

-- memory holds a chain
valid : (c : Start) → let mem = c.args.mem.now in
    Valid mem (decode mem)
valid c = chain-in _ _ c.requires

pub count_of-requires : goal.count_of-requires
count_of-requires c = omega (arith, (valid (goal.at.count_of-requires c).Start).room)

pub any_unaddressed-requires : goal.any_unaddressed-requires
any_unaddressed-requires c = omega (arith, (valid (goal.at.any_unaddressed-requires c).Start).room, c.count_of.ensures)

pub returns-then-any_unaddressed : goal.returns-then-any_unaddressed
returns-then-any_unaddressed c = λ t. permit-tested c.args.mem.now (search rules) (valid (goal.at.returns-then-any_unaddressed c).Start) c.count_of.ensures c.any_unaddressed.ensures t true c.if-any_unaddressed.true

pub returns : goal.returns
returns c = λ t. permit-tested c.args.mem.now (search rules) (valid (goal.at.returns c).Start) c.count_of.ensures c.any_unaddressed.ensures t false c.if-any_unaddressed.false
