-- `answer::dissect_answer` meets its contract: an accepted telegram is as long as it says.
-- Assumes nothing.
use mathlib.Core.Path.{◌∙◌, sym, ap}
use native.Mathlib.Omega.{arith}
use Rattle.telegram.specs.Numbers.{outcome_of}
use Rattle.telegram.proofs.Reading.{accepted-count}
use Rattle.answer.proofs.dissect_answer.Goals as goal

pub name_answer-requires : goal.name_answer-requires
name_answer-requires c = omega (arith, accepted-count _ _ (sym c.read_telegram-r.ensures ∙ ap outcome_of c.in-Ok.is))
