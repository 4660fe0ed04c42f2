-- `telegram::seal` meets its contract. Assumes nothing.
use native.Mathlib.Omega.{arith}
use lib.ListN.{length-take}
use Rattle.telegram.proofs.seal.Goals as goal

pub slice_bounds-checksum-end-2 : goal.slice_bounds-checksum-end-2
slice_bounds-checksum-end-2 c = simp length-take (omega arith)

pub returns : goal.returns
returns c = cc
