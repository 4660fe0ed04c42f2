-- `chain::each_lamp::sweep` meets its contract.
-- Assumes nothing.
use native.Mathlib.Omega.{arith}
use mathlib.Core.Path.{◌≡◌}
use Rattle.chain.proofs.Sweeps.{swept_none, swept-more, swept_all}
use Rattle.chain.proofs.each_lamp.sweep.Goals as goal

pub loop-i-init : goal.loop-i-init
loop-i-init g c = λ rule h. swept_none rule c.args.count c.args.mem.now

pub loop-i-preserved : goal.loop-i-preserved
loop-i-preserved g c = let l = c.loop-i in
    λ rule h. swept-more rule c.args.count c.args.mem.now l.i l.mem (l.invariant rule h) c.loop-i-test.true (h _ _ _ c.loop-i-test.true c.each.ensures) c.each.auto.arg2

pub each-requires : goal.each-requires
each-requires g c = c.requires.calls _ _ c.loop-i-test.true (omega (arith, c.requires.room, c.loop-i-test.true, c.loop-i.auto.mem))

pub returns : goal.returns
returns g c = let l = c.loop-i in
    let e : c.args.count ≡ l.i = omega arith in
    λ rule h. swept_all rule c.args.count c.args.mem.now l.i l.mem (l.invariant rule h) e
