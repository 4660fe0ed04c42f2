-- `chain::record::is_valid` meets its contract: each test is one line of `chain_in`.
-- Assumes nothing.
use mathlib.Core.Path.{◌∙◌, ap, sym}
use Prim.Native.Nat.{ℕ}
use native.Mathlib.Omega.{arith}
use Rattle.rules.specs.Chain.{count_right, lamps_right}
use Rattle.chain.specs.Record.{lamps_in}
use Rattle.chain.proofs.Validity.{chain-short, chain-count, chain-room, chain-tested, count-wrong, count-known, length-known}
use Rattle.chain.proofs.record.is_valid.Goals as goal

pub returns-then-mem-lt-HEADER : goal.returns-then-mem-lt-HEADER
returns-then-mem-lt-HEADER c = sym (chain-short _ c.if-mem-lt-HEADER.true)

pub returns-then-length-eq0 : goal.returns-then-length-eq0
returns-then-length-eq0 c = sym (chain-count _ (sym (ap count_right c.count_of-count.ensures) ∙ count-wrong c.count_of-count.result c.record_len-length.ensures c.if-length-eq0.true))

pub returns-then-mem-length : goal.returns-then-mem-length
returns-then-mem-length c = let k = length-known c.count_of-count.result c.record_len-length.ensures c.if-length-eq0.false in
    sym (chain-room _ (omega (arith, k, c.count_of-count.ensures)))

pub returns : goal.returns
returns c = let n = c.count_of-count.ensures in
    let e = c.record_len-length.ensures in
    let h = c.if-length-eq0.false in
    chain-tested _ (sym (ap count_right n) ∙ count-known c.count_of-count.result e h) (omega (arith, n, length-known c.count_of-count.result e h)) _
    (c.lamps_right.ensures ∙ ap (λ (k : ℕ). lamps_right (lamps_in k c.args.mem.now)) n)
