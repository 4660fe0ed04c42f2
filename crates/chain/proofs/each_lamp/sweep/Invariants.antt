-- `chain::each_lamp::sweep` meets its contract.
-- Assumes nothing.
use mathlib.Core.Path.{◌≡◌}
use Prim.Native.Nat.{ℕ, ◌<◌}
use Rattle.rules.specs.declared.Lamp.{Lamp}
use Rattle.chain.specs.Places.{lamp_at, with_lamp}
use Rattle.chain.proofs.Sweeps.{Swept}
use Rattle.chain.proofs.each_lamp.sweep.Given as goal

abbrev pub invariant-loop-i : goal.invariant-loop-i
invariant-loop-i g l =
    (rule : ℕ → Lamp → Lamp)
    → ((m : _) (p : _) (m' : _) → p.0 < l.count → goal.F-post g l.each m p tt m' → m'.now ≡ with_lamp m.now p.0 (rule p.0 (lamp_at m.now p.0)))
    → Swept rule l.count l.initial.mem l.i l.mem
