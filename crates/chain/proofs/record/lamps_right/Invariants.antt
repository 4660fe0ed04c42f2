-- `chain::record::lamps_right` meets its contract.
-- Assumes nothing.
use mathlib.Core.Path.{◌≡◌}
use mathlib.Core.Bool.{◌&&◌}
use Rattle.rules.specs.Chain.{lamps_right}
use Rattle.chain.specs.Record.{lamps_in}
use Rattle.chain.proofs.Places.{rest}
use Rattle.chain.proofs.record.lamps_right.Given as goal

abbrev pub invariant-loop-i : goal.invariant-loop-i
invariant-loop-i l = (l.right && lamps_right (rest l.i l.count l.mem)) ≡ lamps_right (lamps_in l.count l.mem)
