-- `checksum::remainder_byte` meets its contract. The invariant: the bits left, done to x, give the remainder. Assumes nothing.
use mathlib.Core.Path.{◌∙◌, sym, refl}
use native.Mathlib.Omega.{arith}
use Rattle.checksum.specs.Checksum.{remainder_byte}
use Rattle.checksum.proofs.Bit.{shift-step, shift-end}
use Rattle.checksum.proofs.remainder_byte.Goals as goal

pub loop-init : goal.loop-init
unfolding remainder_byte
loop-init c = refl

pub loop-preserved : goal.loop-preserved
loop-preserved c = let l = c.loop in
    rw c.shift_bit-x.ensures (shift-step l.x l.counter (omega arith) ∙ l.invariant)

pub returns : goal.returns
returns c = let l = c.loop in
    sym (shift-end l.x l.counter (omega arith)) ∙ l.invariant
