-- `osp::returned::count_returned` meets its contract.
-- Assumes nothing.
use mathlib.Core.Path.{ap}
use Prim.Native.Nat.{◌<◌}
use native.Mathlib.Omega.{arith}
use Rattle.telegram.specs.Numbers.{outcome_of}
use Rattle.osp.proofs.returned.count_returned.Goals as goal
use Rattle.osp.proofs.returned.count_returned.Goals.{In-Ok}

-- the count in hand is short
short : (c : In-Ok) → c.in-Ok.n < 65536
short c = c.requires c.in-Ok.n (ap outcome_of c.in-Ok.is)

pub overflow_cast-result : goal.overflow_cast-result
overflow_cast-result c = omega (arith, short c)

pub overflow_mul-result : goal.overflow_mul-result
overflow_mul-result c = omega (arith, short c)
