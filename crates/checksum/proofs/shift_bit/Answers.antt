-- `checksum::shift_bit` meets its contract. Assumes nothing.
use native.Mathlib.Omega.{arith}
use Rattle.checksum.proofs.Bit.{shift-low, shift-high}
use Rattle.checksum.proofs.shift_bit.Goals as goal

pub returns-then-r-lt128 : goal.returns-then-r-lt128
returns-then-r-lt128 c = shift-low _ (omega arith)

pub returns : goal.returns
returns c = shift-high _ (omega arith) (omega arith)
