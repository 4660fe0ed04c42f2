-- `chain::init::init_all` meets its contract: INITBIDIR marks each lamp, and the other init leaves them.
-- Assumes nothing.
use mathlib.Core.Path.{◌∙◌, sym}
use native.Mathlib.Omega.{arith}
use borrow.Author.Tests.{ne_eqb}
use Rattle.chain.specs.Record.{decode}
use Rattle.chain.proofs.Sweeps.{sweep-same}
use Rattle.chain.proofs.Validity.{Valid, chain-in}
use Rattle.chain.proofs.Responding.{told}
use Rattle.chain.proofs.Inits.{init-marks}
use borrow.Author.Rules.{rules}
use Rattle.chain.proofs.init.init_all.Goals as goal
use Rattle.chain.proofs.init.init_all.Goals.{Start, then-order-eq2, else-order-eq2}

-- memory holds a chain
valid : (c : Start) → let mem = c.args.mem.now in
    Valid mem (decode mem)
valid c = chain-in _ _ c.requires.0

pub count_of-count-requires : goal.count_of-count-requires
unfolding decode
count_of-count-requires c = omega (arith, (valid (goal.at.count_of-count-requires c).Start).room)

pub mark_lamps-requires : goal.mark_lamps-requires
unfolding decode
mark_lamps-requires c = omega (arith, (valid (goal.at.mark_lamps-requires c).Start).room, c.count_of-count.ensures)

pub answer_last-requires : goal.answer_last-requires
unfolding decode
answer_last-requires c = let n = c.count_of-count.ensures in
    let v = valid (goal.at.answer_last-requires c).Start in
    (omega (arith, v.some, n), omega (arith, v.room, n, c.if-order-eq2.auto.mem), omega arith)

pub returns : goal.returns
unfolding decode
returns c = let a = c.args in
    let n = c.count_of-count in
    let e = c.answer_last.ensures in
    let v = valid (goal.at.returns c).Start in
    told (init-marks a.mem.now (search rules) v a.order.number c.requires.1 a.room.now n.ensures {mem' = c.if-order-eq2.mem} (elim c.if-order-eq2.branch [
      | then-order-eq2 w ↦ rw w.if-order-eq2.true (w.mem-is ∙ w.mark_lamps.ensures)
      | else-order-eq2 w ↦ rw (ne_eqb _ _ w.if-order-eq2.false) (w.mem-is ∙ sym (sweep-same 0 n.result a.mem.now (search rules) (omega (arith, v.room, n.ensures))))
    ]) e.answer e.room)
