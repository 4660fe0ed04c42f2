-- `chain::init::init_from` meets its contract: the walk numbers each lamp.
-- Assumes nothing.
use native.Mathlib.Omega.{arith}
use Rattle.chain.specs.Record.{decode}
use Rattle.chain.proofs.Validity.{Valid, chain-in}
use Rattle.chain.proofs.Responding.{told}
use Rattle.chain.proofs.Inits.{init-numbers}
use borrow.Author.Rules.{rules}
use Rattle.chain.proofs.init.init_from.Goals as goal
use Rattle.chain.proofs.init.init_from.Goals.{Start}

-- memory holds a chain
valid : (c : Start) → let mem = c.args.mem.now in
    Valid mem (decode mem)
valid c = chain-in _ _ c.requires.0

pub count_of-count-requires : goal.count_of-count-requires
unfolding decode
count_of-count-requires c = omega (arith, (valid (goal.at.count_of-count-requires c).Start).room)

pub overflow_sub-last : goal.overflow_sub-last
unfolding decode
overflow_sub-last c = omega (arith, (valid (goal.at.overflow_sub-last c).Start).some, c.count_of-count.ensures)

pub number_lamps-requires : goal.number_lamps-requires
unfolding decode
number_lamps-requires c = (omega (arith, (valid (goal.at.number_lamps-requires c).Start).room, c.count_of-count.ensures), omega (arith, c.requires.2, c.count_of-count.ensures))

pub answer_last-requires : goal.answer_last-requires
unfolding decode
answer_last-requires c = let n = c.count_of-count.ensures in
    (omega (arith, (valid (goal.at.answer_last-requires c).Start).some, n), omega (arith, (valid (goal.at.answer_last-requires c).Start).room, n, c.number_lamps.auto.mem), omega (arith, c.requires.2, n))

pub returns : goal.returns
unfolding decode
returns c = let a = c.args in
    let e = c.answer_last.ensures in
    told (init-numbers a.mem.now (search rules) (valid (goal.at.returns c).Start) a.order.number c.requires.1 a.first a.room.now c.count_of-count.ensures c.number_lamps.ensures e.answer e.room)
