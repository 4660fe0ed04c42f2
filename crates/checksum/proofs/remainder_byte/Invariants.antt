-- `checksum::remainder_byte` meets its contract. The invariant: the bits left, done to x, give the remainder. Assumes nothing.
use Prim.Native.Nat.{◌-◌}
use mathlib.Core.Path.{◌≡◌}
use Rattle.checksum.specs.Checksum.{shift_bits, remainder_byte}
use Rattle.checksum.proofs.remainder_byte.Given as goal

abbrev pub invariant-loop : goal.invariant-loop
invariant-loop l = shift_bits (8 - l.counter) l.x ≡ remainder_byte l.r l.b
