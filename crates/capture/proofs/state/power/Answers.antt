-- `capture::state::power` meets its contract: one test of each k. Assumes nothing.
use Rattle.std.proofs.Common.{ℕ, ◌*◌, ◌^◌, ◌%◌, Bool, ◌&&◌, T, eqb, leb, eqb→eq, arith}
use lib.Dec.{leb→le}
use Rattle.checksum.proofs.Below.{T-left, T-right, below, at}
use Rattle.capture.proofs.state.power.Goals as goal

shifted : ℕ → ℕ
shifted k = 1 * 2 ^ (8 * k) % 18446744073709551616

right : ℕ → Bool
right k = eqb (shifted k) (256 ^ k) && leb (shifted k) 72057594037927936

right-all : T (below right 8)
unfolding right shifted
right-all = tt

pub returns : goal.returns
unfolding right shifted
returns c =
    let k = c.args.k in
    let t = at right 8 right-all k (omega arith) in
    (eqb→eq _ _ (T-left (eqb (shifted k) (256 ^ k)) _ t), leb→le _ _ (T-right (eqb (shifted k) (256 ^ k)) _ t))
