-- Two tests that both hold, of the law on computed tests.
-- Assumes nothing.
use mathlib.Core.Path.{◌≡◌, sym, subst}
use mathlib.Core.Bool.{Bool, true, ◌&&◌}
use lib.Dec.{T}
use Rattle.checksum.proofs.Below.{T-left, T-right, T_true}

pub and_left : (a b : Bool) → (a && b) ≡ true → a ≡ true
and_left a b h = T_true a (T-left a b (subst T (sym h) tt))

pub and_right : (a b : Bool) → (a && b) ≡ true → b ≡ true
and_right a b h = T_true b (T-right a b (subst T (sym h) tt))
