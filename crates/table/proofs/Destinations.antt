-- Addresses as destinations, and back.
-- Assumes nothing.
use mathlib.Core.Path.{◌≡◌, ◌∙◌, refl, sym, ap, subst}
use mathlib.Core.Bool.{Bool, true, false, cond}
use Prim.Native.Nat.{ℕ, ◌+◌, ◌-◌, ◌≤◌, ◌<◌}
use native.Mathlib.Omega.{arith}
use native.Mathlib.Nat.{add-sub_cancel_left}
use lib.Dec.{eqb, leb}
use borrow.Author.Tests.{le-leb, lt-leb, ne_eqb, eqb-true, eqb-false, leb-true, leb-false}
use Rattle.telegram.specs.Numbers.{refused, done}
use Rattle.telegram.proofs.Outcomes.{never, done-one}
use Rattle.table.specs.Casts.{destination, address_of, cast_in_range}
use Rattle.table.specs.declared.Cast.{Cast}
use Rattle.table.specs.declared.Cast.TheVariants.{Everyone, One, Group}
use Rattle.table.proofs.Both.{and_left, and_right}

module _ (a : ℕ) where
  pub to_one : (a ≡ 0 → ⊥) → a < 1008 → done (One (record { 0 = a })) ≡ destination a
  unfolding destination
  to_one z h = simp (ne_eqb a 0 z, le-leb a 0x3EF (omega arith))

  pub to-group : 1008 ≤ a → a < 1023 → done (Group (a - 1008)) ≡ destination a
  unfolding destination
  to-group l h = simp (ne_eqb a 0 (λ (e : a ≡ 0). omega arith), lt-leb a 0x3EF l, le-leb a 0x3FE (omega arith))

-- What is known of a destination: its address comes back, and it is in range.
pub record Reached (a : ℕ) (cast : Cast) : Type 0 where
  pub address : address_of cast ≡ a
  pub range : cast_in_range cast ≡ true

by_tests : (b₁ b₂ b₃ : Bool) (a : ℕ) (cast : Cast) → eqb a 0 ≡ b₁ → leb a 0x3EF ≡ b₂ → leb a 0x3FE ≡ b₃
    → cond b₁ (done Everyone) (cond b₂ (done (One (record { 0 = a }))) (cond b₃ (done (Group (a - 0x3F0))) (refused 7))) ≡ done cast
    → Reached a cast
by_tests true b₂ b₃ a cast e₁ e₂ e₃ h =
    subst (Reached a) (done-one h) (record { address = sym (eqb-true a 0 e₁); range = refl })
by_tests false true b₃ a cast e₁ e₂ e₃ h =
    let z : a ≡ 0 → ⊥ = eqb-false a 0 e₁ in
    let u : a ≤ 0x3EF = leb-true a 0x3EF e₂ in
    subst (Reached a) (done-one h) (record { address = refl; range = simp (le-leb 1 a (omega arith), e₂) })
by_tests false false true a cast e₁ e₂ e₃ h =
    let l : 0x3EF < a = leb-false a 0x3EF e₂ in
    let u : a ≤ 0x3FE = leb-true a 0x3FE e₃ in
    subst (Reached a) (done-one h) (record { address = omega arith; range = le-leb (a - 0x3F0) 14 (omega arith) })
by_tests false false false a cast e₁ e₂ e₃ h = absurd (never h)

pub reached : (a : ℕ) (cast : Cast) → destination a ≡ done cast → Reached a cast
unfolding destination
reached a cast h = by_tests (eqb a 0) (leb a 0x3EF) (leb a 0x3FE) a cast refl refl refl h

-- The address of a cast in range has that cast as its destination.
pub cast-back : (cast : Cast) → cast_in_range cast ≡ true → destination (address_of cast) ≡ done cast
unfolding destination
cast-back Everyone h = refl
cast-back (One a) h =
    let l : 1 ≤ a.0 = leb-true 1 a.0 (and_left (leb 1 a.0) _ h) in
    let u : a.0 ≤ 0x3EF = leb-true a.0 0x3EF (and_right (leb 1 a.0) _ h) in
    sym (to_one a.0 (λ (e : a.0 ≡ 0). omega arith) (omega arith))
cast-back (Group g) h =
    let u : g ≤ 14 = leb-true g 14 h in
    sym (to-group (0x3F0 + g) (omega arith) (omega arith)) ∙ ap (λ (k : ℕ). done (Group k)) (add-sub_cancel_left 0x3F0 g)

-- The address of a cast in range has 10 bits.
pub address-le : (cast : Cast) → cast_in_range cast ≡ true → address_of cast ≤ 1023
address-le Everyone h = omega arith
address-le (One a) h = omega (arith, leb-true a.0 0x3EF (and_right (leb 1 a.0) (leb a.0 0x3EF) h))
address-le (Group g) h = omega (arith, leb-true g 14 h)
