-- `osp::telegrams::osp_read` meets its contract: an accepted telegram is as long as it says.
-- Assumes nothing.
use mathlib.Core.Path.{sym}
use native.Mathlib.Omega.{arith}
use Rattle.telegram.proofs.Reading.{accepted-count, accepted-size}
use Rattle.osp.proofs.telegrams.osp_read.Goals as goal

pub give_telegram-requires : goal.give_telegram-requires
give_telegram-requires c = (
  omega (arith, accepted-count _ _ (sym c.in-Ok.ensures)),
  accepted-size _ _ (λ i. omega (arith, c.type_inv.s i)) (sym c.in-Ok.ensures),
)
