-- Bytes as a number, low byte first: those from an index on are zero where the number is below that power of 256. Assumes nothing.
use Rattle.std.proofs.Common.{◌≡◌, ℕ, zero, suc, ◌+◌, ◌*◌, ◌^◌, ◌<◌, ◌≤◌, Bool, true, false, ltb, List, [], ◌∷◌, length, get_or, drop, refl, ap, ◌∙◌, arith, drop_of_length-le, drop-cons, ltb-false, ltb-true, le-ltb, lt-ltb, ne_eqb}
use native.Mathlib.Numerals.{unary_clauses}
use Rattle.telegram.specs.Telegram.{Bytes}
use Rattle.capture.specs.State.{zeros}

abbrev pub low_of : List ℕ → ℕ
low_of [] = 0
low_of (b ∷ l) = b + low_of l * 256

power-some : (k : ℕ) → 1 ≤ 256 ^ k
power-some zero = omega arith
power-some (suc k) = let h = power-some k in simp unary_clauses (omega arith)

-- The number is below 1.
one-by : (x : ℕ) (t : Bool) → ltb x 1 ≡ t → ltb (0 + x * 256) 1 ≡ t
one-by x true e = let g = ltb-true x 1 e in lt-ltb (0 + x * 256) 1 (omega arith)
one-by x false e = let g = ltb-false x 1 e in le-ltb (0 + x * 256) 1 (omega arith)

below_one : (l : List ℕ) → ltb (low_of l) 1 ≡ zeros l
below_one [] = refl
below_one (zero ∷ l) = one-by (low_of l) (zeros l) (below_one l)
below_one (suc b ∷ l) = rw (ne_eqb (suc b) 0 (λ e. omega arith)) (le-ltb (suc b + low_of l * 256) 1 (omega arith))

-- One byte less, and one power less.
power-by : (b x p : ℕ) (t : Bool) → b < 256 → ltb x p ≡ t → ltb (b + x * 256) (p * 256) ≡ t
power-by b x p true h e = let g = ltb-true x p e in lt-ltb (b + x * 256) (p * 256) (omega arith)
power-by b x p false h e = let g = ltb-false x p e in le-ltb (b + x * 256) (p * 256) (omega arith)

pub below_power : (l : List ℕ) (k : ℕ) → Bytes l → ltb (low_of l) (256 ^ k) ≡ zeros (drop k l)
below_power l zero y = below_one l
below_power [] (suc k) y = lt-ltb 0 (256 ^ suc k) (power-some (suc k))
below_power (b ∷ l) (suc k) y = simp unary_clauses (power-by b (low_of l) (256 ^ k) (zeros (drop k l)) (y 0) (below_power l k (λ i. y (suc i))))

-- Four bytes of the number, from an index on.
low-four : (l : List ℕ) (k : ℕ) → k + 3 < length l
    → low_of (drop k l)
    ≡ get_or l k 0 + get_or l (suc k) 0 * 256 + get_or l (suc (suc k)) 0 * 65536 + get_or l (suc (suc (suc k))) 0 * 16777216 + low_of (drop (suc (suc (suc (suc k)))) l) * 4294967296
low-four l k h =
    let a = drop-cons l k 0 (omega arith) in
    let b = drop-cons l (suc k) 0 (omega arith) in
    let c = drop-cons l (suc (suc k)) 0 (omega arith) in
    let d = drop-cons l (suc (suc (suc k))) 0 (omega arith) in
    ap low_of (a ∙ ap (λ (x : List ℕ). get_or l k 0 ∷ x) (b ∙ ap (λ (x : List ℕ). get_or l (suc k) 0 ∷ x) (c ∙ ap (λ (x : List ℕ). get_or l (suc (suc k)) 0 ∷ x) d)))
    ∙ omega arith

-- Twelve bytes, by fours.
module _ (l : List ℕ) (n : length l ≡ 12) where
  abbrev four : ℕ → ℕ
  four k = get_or l k 0 + get_or l (k + 1) 0 * 256 + get_or l (k + 2) 0 * 65536 + get_or l (k + 3) 0 * 16777216

  none-behind : low_of (drop 12 l) ≡ 0
  none-behind = let h : length l ≤ 12 = omega arith in ap low_of (drop_of_length-le l h)

  pub low-last : low_of (drop 8 l) ≡ four 8
  low-last = let h = low-four l 8 (omega arith) in omega (arith, h, none-behind)

  pub low-all : low_of l ≡ four 0 + four 4 * 4294967296 + four 8 * 18446744073709551616
  low-all =
      let h = low-four l 0 (omega arith) in
      let g = low-four l 4 (omega arith) in
      omega (arith, h, g, low-last)
