-- The raw builder: a law for each of its answers, and what is known of a telegram that was built.
-- Callers cite these and do not unfold `building`.
-- Assumes nothing.
use mathlib.Core.Path.{◌≡◌, refl, ◌∙◌}
use mathlib.Core.Bool.{Bool, true, false, ◌||◌}
use mathlib.Core.List.{List, [], ◌∷◌}
use Prim.Native.Nat.{ℕ, ◌+◌, ◌<◌, ◌≤◌}
use native.Mathlib.Omega.{arith}
use borrow.Author.Tests.{lt-ltb, le-ltb, ltb-false, leb-true, eqb-true, not-false}
use lib.Dec.{leb, ltb, eqb}
use lib.ListN.{length, length-append}
use Rattle.checksum.specs.Checksum.{checksum_of}
use Rattle.telegram.specs.Numbers.{refused, done, fitted}
use Rattle.telegram.specs.Telegram.{listed, unsealed, telegram_of, building}
use Rattle.telegram.proofs.Outcomes.{done-one, passed, fit_small, fit-done}

-- A listed length is at most 8.
one_of : (b₁ b₂ b₃ : Bool) (n : ℕ) → (b₁ ≡ true → n ≤ 8) → (b₂ ≡ true → n ≤ 8) → (b₃ ≡ true → n ≤ 8)
    → (b₁ || b₂ || b₃) ≡ true → n ≤ 8
one_of true b₂ b₃ n h₁ h₂ h₃ e = h₁ refl
one_of false true b₃ n h₁ h₂ h₃ e = h₂ refl
one_of false false b₃ n h₁ h₂ h₃ e = h₃ e

pub listed_le : (n : ℕ) → listed n ≡ true → n ≤ 8
listed_le n e =
    one_of (leb n 4) (eqb n 6) (eqb n 8) n (λ h. omega (arith, leb-true n 4 h)) (λ h. omega (arith, eqb-true n 6 h))
    (λ h. omega (arith, eqb-true n 8 h)) e

pub telegram-length : (a c : ℕ) (p : List ℕ) → length (telegram_of a c p) ≡ 4 + length p
unfolding telegram_of unsealed
telegram-length a c p = length-append (unsealed a c p) (checksum_of (unsealed a c p) ∷ []) ∙ omega arith

-- What the raw builder takes.
pub record Sendable (a c : ℕ) (p : List ℕ) : Type 0 where
  pub address : a ≤ 1023
  pub command : c ≤ 127
  pub size : listed (length p) ≡ true

module _ (a c : ℕ) (p : List ℕ) (room : ℕ) where
  pub build-address : 1023 < a → building a c p room ≡ refused 10
  unfolding building
  build-address h = simp (lt-ltb _ _ h)

  pub build-command : a ≤ 1023 → 127 < c → building a c p room ≡ refused 10
  unfolding building
  build-command h₁ h = simp (le-ltb _ _ h₁, lt-ltb _ _ h)

  pub build-length : a ≤ 1023 → c ≤ 127 → listed (length p) ≡ false → building a c p room ≡ refused 10
  unfolding building
  build-length h₁ h₂ h = simp (le-ltb _ _ h₁, le-ltb _ _ h₂, h)

  -- Of fields that can be sent, only the room is left to test.
  pub build-sendable : Sendable a c p → building a c p room ≡ fitted room (telegram_of a c p)
  unfolding building
  build-sendable v = simp (le-ltb _ _ v.address, le-ltb _ _ v.command, v.size)

  pub build-room : Sendable a c p → room < 4 + length p → building a c p room ≡ refused 9
  build-room v h = build-sendable v ∙ fit_small room (telegram_of a c p) (omega (arith, telegram-length a c p))

  pub build-done : Sendable a c p → 4 + length p ≤ room → building a c p room ≡ done (telegram_of a c p)
  build-done v h = build-sendable v ∙ fit-done room (telegram_of a c p) (omega (arith, telegram-length a c p))

  -- What was built could be sent, and is its telegram.
  pub built : {s : List ℕ} → building a c p room ≡ done s → Sendable a c p × (telegram_of a c p ≡ s)
  unfolding building
  built e =
      let p₁ = passed _ _ _ e in
      let p₂ = passed _ _ _ p₁.1 in
      let p₃ = passed _ _ _ p₂.1 in
      let p₄ = passed (ltb room (length (telegram_of a c p))) 9 (done (telegram_of a c p)) p₃.1 in (
        record {
          address = ltb-false 1023 a p₁.0;
          command = ltb-false 127 c p₂.0;
          size = not-false _ p₃.0;
        },
        done-one p₄.1,
      )
