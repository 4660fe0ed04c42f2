-- `chain::each_lamp::find` meets its contract.
-- Assumes nothing.
use mathlib.Core.Path.{◌≡◌, ◌∙◌, ap, sym}
use native.Mathlib.Omega.{arith}
use borrow.Author.Tests.{eqb-true, eqb-false}
use Rattle.chain.specs.Places.{place_from}
use Rattle.chain.proofs.Places.{rest_all, place_here, place-next, place_none}
use Rattle.chain.proofs.each_lamp.find.Goals as goal

pub loop-i-init : goal.loop-i-init
loop-i-init c = let a = c.args in
    ap (place_from 0 a.a.0) (sym (rest_all a.count a.mem.now))

pub returns-then-has_address : goal.returns-then-has_address
returns-then-has_address c = let l = c.loop-i in
    let a = c.args in
    sym (l.invariant ∙ place_here l.i a.count a.a.0 a.mem.now (omega arith) (eqb-true _ _ (sym c.has_address.ensures ∙ c.if-has_address.true)))

pub loop-i-preserved : goal.loop-i-preserved
loop-i-preserved c = let l = c.loop-i in
    let a = c.args in
    l.invariant ∙ place-next l.i a.count a.a.0 a.mem.now (omega arith) (eqb-false _ _ (sym c.has_address.ensures ∙ c.if-has_address.false))

pub returns : goal.returns
returns c = let l = c.loop-i in
    let a = c.args in
    let e : l.i ≡ a.count = omega arith in
    sym (l.invariant ∙ rw e (place_none a.count a.a.0 a.mem.now))
