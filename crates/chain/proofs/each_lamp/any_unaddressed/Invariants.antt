-- `chain::each_lamp::any_unaddressed` meets its contract.
-- Assumes nothing.
use mathlib.Core.Path.{◌≡◌}
use mathlib.Core.Bool.{◌||◌}
use Rattle.rules.specs.Chain.{any_unaddressed}
use Rattle.chain.specs.Record.{lamps_in}
use Rattle.chain.proofs.Places.{rest}
use Rattle.chain.proofs.each_lamp.any_unaddressed.Given as goal

abbrev pub invariant-loop-i : goal.invariant-loop-i
invariant-loop-i l = (l.any || any_unaddressed (rest l.i l.count l.mem)) ≡ any_unaddressed (lamps_in l.count l.mem)
