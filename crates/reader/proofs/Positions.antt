-- A position below 2^64 in eight bytes, high byte first: it comes back from them, and they come back from it. Assumes nothing.
use Rattle.std.proofs.Common.{◌≡◌, ℕ, ◌+◌, ◌*◌, ◌/◌, ◌%◌, ◌<◌, List, [], ◌∷◌, map, refl, arith}
use Rattle.telegram.specs.Telegram.{Bytes}
use Rattle.frame.proofs.Fronts.{bytes-none, bytes-cons}
use Rattle.capture.specs.Uncut.{Position}
use Rattle.reader.specs.Layout.{number_in, position_bytes}

-- Byte by byte: the bytes so far are the number without those that follow.
pub position-back : (p : ℕ) → Position p → number_in 0 (position_bytes p) ≡ p
position-back p h =
    let e₁ : 0 * 256 + p / 72057594037927936 % 256 ≡ p / 72057594037927936 = omega arith in
    let e₂ : p / 72057594037927936 * 256 + p / 281474976710656 % 256 ≡ p / 281474976710656 = omega arith in
    let e₃ : p / 281474976710656 * 256 + p / 1099511627776 % 256 ≡ p / 1099511627776 = omega arith in
    let e₄ : p / 1099511627776 * 256 + p / 4294967296 % 256 ≡ p / 4294967296 = omega arith in
    let e₅ : p / 4294967296 * 256 + p / 16777216 % 256 ≡ p / 16777216 = omega arith in
    let e₆ : p / 16777216 * 256 + p / 65536 % 256 ≡ p / 65536 = omega arith in
    let e₇ : p / 65536 * 256 + p / 256 % 256 ≡ p / 256 = omega arith in
    let e₈ : p / 256 * 256 + p % 256 ≡ p = omega arith in
    rw (e₁, e₂, e₃, e₄, e₅, e₆, e₇, e₈) refl

-- Each of them is a byte.
each-low : (l : List ℕ) → Bytes (map (λ (q : ℕ). q % 256) l)
each-low [] = bytes-none
each-low (q ∷ l) = bytes-cons (q % 256) (map (λ (q : ℕ). q % 256) l) (omega arith) (each-low l)

pub position-each : (p : ℕ) → Bytes (position_bytes p)
position-each p =
    each-low
    (p / 72057594037927936 ∷ p / 281474976710656 ∷ p / 1099511627776 ∷ p / 4294967296 ∷ p / 16777216 ∷ p / 65536 ∷ p / 256 ∷ p ∷ [])

-- The other way round: eight bytes, the number that they are, and its bytes.
module _ (a b c d e f g h : ℕ) (i₁ : a < 256) (i₂ : b < 256) (i₃ : c < 256) (i₄ : d < 256)
    (i₅ : e < 256) (i₆ : f < 256) (i₇ : g < 256) (i₈ : h < 256) where
  abbrev n : ℕ
  n = number_in 0 (a ∷ b ∷ c ∷ d ∷ e ∷ f ∷ g ∷ h ∷ [])

  pub number-position : Position n
  number-position = omega arith

  pub number-back : position_bytes n ≡ a ∷ b ∷ c ∷ d ∷ e ∷ f ∷ g ∷ h ∷ []
  number-back =
      let e₁ : n / 72057594037927936 % 256 ≡ a = omega arith in
      let e₂ : n / 281474976710656 % 256 ≡ b = omega arith in
      let e₃ : n / 1099511627776 % 256 ≡ c = omega arith in
      let e₄ : n / 4294967296 % 256 ≡ d = omega arith in
      let e₅ : n / 16777216 % 256 ≡ e = omega arith in
      let e₆ : n / 65536 % 256 ≡ f = omega arith in
      let e₇ : n / 256 % 256 ≡ g = omega arith in
      let e₈ : n % 256 ≡ h = omega arith in
      λ i. e₁ i ∷ e₂ i ∷ e₃ i ∷ e₄ i ∷ e₅ i ∷ e₆ i ∷ e₇ i ∷ e₈ i ∷ []
