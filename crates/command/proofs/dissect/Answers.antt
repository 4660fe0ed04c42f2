-- `command::dissect` meets its contract: an accepted telegram is as long as it says.
-- Assumes nothing.
use mathlib.Core.Path.{◌∙◌, sym, ap}
use native.Mathlib.Omega.{arith}
use Rattle.telegram.specs.Numbers.{outcome_of}
use Rattle.telegram.proofs.Reading.{accepted-count}
use Rattle.command.proofs.dissect.Goals as goal

pub name_command-requires : goal.name_command-requires
name_command-requires c = omega (arith, accepted-count _ _ (sym c.read_telegram-r.ensures ∙ ap outcome_of c.in-Ok.is))
