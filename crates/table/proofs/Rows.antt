-- Laws by cases: what holds of each row and of 6 holds of the table, what holds of each cast and of 7 holds of a destination.
-- Assumes nothing.
use mathlib.Core.Bool.{◌&&◌}
use Prim.Native.Nat.{ℕ}
use lib.Dec.{eqb, leb}
use Rattle.telegram.specs.Numbers.{Outcome, refused, done}
use Rattle.telegram.proofs.Outcomes.{either}
use Rattle.table.specs.declared.Row.{Row}
use Rattle.table.specs.declared.Cast.{Cast}
use Rattle.table.specs.Table.{row_of}
use Rattle.table.specs.Casts.{destination}

pub by_row : (P : Outcome Row → Type 0) → ((r : Row) → P (done r)) → P (refused 6) → (n : ℕ) → P (row_of n)
unfolding row_of
by_row P known unknown n =
    either P (leb n 0x01) (known _)
    (either P (leb n 0x03) (known _)
    (either P (leb n 0x06) (known _)
    (either P (eqb n 0x07) (known _)
    (either P (eqb n 0x0C) (known _)
    (either P (eqb n 0x0D) (known _)
    (either P (leb 0x24 n && leb n 0x26) (known _)
    (either P (eqb n 0x2D) (known _)
    (either P (eqb n 0x40) (known _)
    (either P (eqb n 0x42) (known _)
    (either P (eqb n 0x48) (known _)
    (either P (eqb n 0x4A) (known _)
    (either P (eqb n 0x4B) (known _)
    (either P (eqb n 0x4C) (known _)
    (either P (eqb n 0x4D) (known _)
    (either P (eqb n 0x4E) (known _)
    (either P (eqb n 0x4F) (known _)
    (either P (eqb n 0x6B) (known _)
    (either P (eqb n 0x6D) (known _)
    (either P (eqb n 0x6F) (known _) unknown)))))))))))))))))))

pub by-destination : (P : Outcome Cast → Type 0) → ((cast : Cast) → P (done cast)) → P (refused 7) → (a : ℕ) → P (destination a)
unfolding destination
by-destination P to nobody a =
    either P (eqb a 0) (to _) (either P (leb a 0x3EF) (to _) (either P (leb a 0x3FE) (to _) nobody))
