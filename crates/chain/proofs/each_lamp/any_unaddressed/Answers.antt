-- `chain::each_lamp::any_unaddressed` meets its contract.
-- Assumes nothing.
use mathlib.Core.Path.{◌≡◌, ◌∙◌, ap, sym}
use Prim.Native.Nat.{ℕ}
use native.Mathlib.Omega.{arith}
use mathlib.Core.Bool.{◌||◌}
use Rattle.rules.specs.Chain.{any_unaddressed}
use Rattle.chain.proofs.Places.{rest, rest_all, unaddressed-step, unaddressed-none}
use Rattle.chain.proofs.each_lamp.any_unaddressed.Goals as goal

pub loop-i-init : goal.loop-i-init
loop-i-init c = ap any_unaddressed (rest_all c.args.count c.args.mem.now)

pub loop-i-preserved : goal.loop-i-preserved
loop-i-preserved c = let l = c.loop-i in
    let a = c.args in
    rw (c.or-any.ensures, c.load_address.ensures) (unaddressed-step l.any l.i a.count a.mem.now (omega arith) ∙ l.invariant)

pub returns : goal.returns
returns c = let l = c.loop-i in
    let a = c.args in
    let e : a.count ≡ l.i = omega arith in
    sym (unaddressed-none l.any l.i a.mem.now) ∙ ap (λ (n : ℕ). l.any || any_unaddressed (rest l.i n a.mem.now)) (sym e) ∙ l.invariant
