-- `chain::change::is_member` meets its contract: a word is below 2 to a group that is no bit of it.
-- Assumes nothing.
use Prim.Native.Nat.{◌^◌, ◌≤◌, ◌<◌}
use native.Mathlib.Omega.{arith}
use native.Mathlib.Nat.{div-eq_of_lt}
use borrow.Author.Tests.{le-ltb}
use Rattle.std.proofs.Math.Pow.{pow_mono}
use Rattle.chain.proofs.change.is_member.Goals as goal

pub returns-else-g-lt16 : goal.returns-else-g-lt16
returns-else-g-lt16 c = let a = c.args in
    let past : 16 ≤ a.g = omega arith in
    let below : a.groups < 2 ^ a.g = omega (arith, pow_mono past) in
    simp (le-ltb a.g 16 past, div-eq_of_lt below)
