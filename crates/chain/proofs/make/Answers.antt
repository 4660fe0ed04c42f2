-- `chain::make` meets its contract: each test is one line of `made`.
-- Assumes nothing.
use mathlib.Core.Path.{◌∙◌, ap₂}
use Prim.Native.Nat.{ℕ}
use native.Mathlib.Omega.{arith}
use mathlib.Core.List.{List}
use Rattle.rules.specs.declared.Lamp.{Lamp}
use Rattle.chain.specs.Places.{sweep}
use Rattle.chain.proofs.Validity.{count-wrong, count-known, length-known}
use Rattle.chain.proofs.Records.{hold-fresh}
use Rattle.chain.proofs.Exits.{held-refused, held-done, made-count, made-room, made-done}
use Rattle.chain.proofs.make.Goals as goal

pub returns-then-length-eq0 : goal.returns-then-length-eq0
returns-then-length-eq0 c = held-refused _ _ (made-count _ _ _ (count-wrong c.args.count c.record_len-length.ensures c.if-length-eq0.true))

pub returns-then-mem-length : goal.returns-then-mem-length
returns-then-mem-length c = let e = c.record_len-length.ensures in
    held-refused _ _ (made-room _ _ _ (count-known c.args.count e c.if-length-eq0.false) (omega (arith, length-known c.args.count e c.if-length-eq0.false)))

pub returns : goal.returns
returns c = let a = c.args in
    let e = c.record_len-length.ensures in
    let h = c.if-length-eq0.false in
    held-done _ _ (made-done _ a.count a.d (count-known a.count e h) (omega (arith, length-known a.count e h)))
    (c.fill.ensures
    ∙ ap₂ (λ (x : Lamp) (m : List ℕ). sweep (λ (p : ℕ) (l : Lamp). x) 0 a.count m) c.fresh_lamp.ensures c.put_header.ensures
    ∙ hold-fresh a.mem.now a.count a.d)
