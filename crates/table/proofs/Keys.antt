-- The single numbers of a `match`: what its `_` arm knows of a number that none of them is.
-- Assumes nothing.
use mathlib.Core.Path.{◌≡◌, refl, subst}
use mathlib.Core.Bool.{Bool, false, ◌||◌}
use mathlib.Core.List.{List, [], ◌∷◌}
use Prim.Native.Nat.{ℕ, ◌<◌}
use lib.Dec.{T, eqb}
use borrow.Author.Tests.{ne_eqb}
use Rattle.checksum.proofs.Below.{below, at}

abbrev pub member : ℕ → List ℕ → Bool
member n [] = false
member n (k ∷ ks) = eqb n k || member n ks

-- None of a list's numbers. The list has the arms' numbers, the last first.
abbrev pub NoneOf : List ℕ → ℕ → Type 0
NoneOf [] n = Unit {0}
NoneOf (k ∷ ks) n = NoneOf ks n × (n ≡ k → ⊥)

unlisted : (ks : List ℕ) (n : ℕ) → NoneOf ks n → member n ks ≡ false
unlisted [] n h = refl
unlisted (k ∷ ks) n h = rw (ne_eqb n k h.1) (unlisted ks n h.0)

-- A test that holds below 256 at each number that the list has not, holds at such a number.
pub elsewhere : (f : ℕ → Bool) (ks : List ℕ) → T (below (λ (m : ℕ). member m ks || f m) 256)
    → (n : ℕ) → n < 256 → NoneOf ks n → T (f n)
elsewhere f ks t n h k =
    subst (λ (b : Bool). T (b || f n)) (unlisted ks n k) (at (λ (m : ℕ). member m ks || f m) 256 t n h)
