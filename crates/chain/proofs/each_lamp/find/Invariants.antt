-- `chain::each_lamp::find` meets its contract.
-- Assumes nothing.
use mathlib.Core.Path.{◌≡◌}
use Rattle.chain.specs.Record.{lamps_in}
use Rattle.chain.specs.Places.{place_from}
use Rattle.chain.proofs.Places.{rest}
use Rattle.chain.proofs.each_lamp.find.Given as goal

abbrev pub invariant-loop-i : goal.invariant-loop-i
invariant-loop-i l = place_from 0 l.a.0 (lamps_in l.count l.mem) ≡ place_from l.i l.a.0 (rest l.i l.count l.mem)
