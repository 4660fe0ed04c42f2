-- `chain::init::permit_from` meets its contract: past 3EF, and not.
-- Assumes nothing.
use native.Mathlib.Omega.{arith}
use Rattle.chain.specs.Record.{decode}
use Rattle.chain.proofs.Validity.{Valid, chain-in}
use Rattle.chain.proofs.Inits.{permit-past, permit-fits}
use borrow.Author.Rules.{rules}
use Rattle.chain.proofs.init.permit_from.Goals as goal
use Rattle.chain.proofs.init.permit_from.Goals.{Start}

-- memory holds a chain
valid : (c : Start) → let mem = c.args.mem.now in
    Valid mem (decode mem)
valid c = chain-in _ _ c.requires.0

pub count_of-requires : goal.count_of-requires
count_of-requires c = omega (arith, (valid (goal.at.count_of-requires c).Start).room)

pub overflow_add-first : goal.overflow_add-first
overflow_add-first c = omega (arith, (valid (goal.at.overflow_add-first c).Start).most, c.count_of.ensures)

pub overflow_sub-first : goal.overflow_sub-first
overflow_sub-first c = omega (arith, (valid (goal.at.overflow_sub-first c).Start).some, c.count_of.ensures)

pub returns-then-first-count_of-gt1007 : goal.returns-then-first-count_of-gt1007
returns-then-first-count_of-gt1007 c = λ t. permit-past c.args.mem.now (search rules) (valid (goal.at.returns-then-first-count_of-gt1007 c).Start) c.args.first c.count_of.ensures t (omega arith)

pub returns : goal.returns
returns c = λ t. permit-fits c.args.mem.now (search rules) (valid (goal.at.returns c).Start) c.args.first c.count_of.ensures t (omega arith)
