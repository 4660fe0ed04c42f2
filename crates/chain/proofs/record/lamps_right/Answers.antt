-- `chain::record::lamps_right` meets its contract.
-- Assumes nothing.
use mathlib.Core.Path.{◌≡◌, ◌∙◌, ap, sym}
use Prim.Native.Nat.{ℕ}
use native.Mathlib.Omega.{arith}
use mathlib.Core.Bool.{◌&&◌}
use Rattle.rules.specs.Chain.{lamps_right}
use Rattle.chain.proofs.Places.{rest, rest_all, right-step, right-none}
use Rattle.chain.proofs.record.lamps_right.Goals as goal

pub loop-i-init : goal.loop-i-init
loop-i-init c = ap lamps_right (rest_all c.args.count c.args.mem.now)

pub loop-i-preserved : goal.loop-i-preserved
loop-i-preserved c = let l = c.loop-i in
    let a = c.args in
    rw (c.and-right.ensures, c.lamp_right.ensures) (right-step l.right l.i a.count a.mem.now (omega arith) ∙ l.invariant)

pub returns : goal.returns
returns c = let l = c.loop-i in
    let a = c.args in
    let e : a.count ≡ l.i = omega arith in
    sym (right-none l.right l.i a.mem.now) ∙ ap (λ (n : ℕ). l.right && lamps_right (rest l.i n a.mem.now)) (sym e) ∙ l.invariant
