-- The digits of a number in decimal, one by one for a number of at most five, and as the kit's `io::decimal` gives them.
-- Assumes nothing.
use Rattle.std.proofs.Common.{◌≡◌, ℕ, zero, suc, ◌+◌, ◌-◌, ◌*◌, ◌/◌, ◌%◌, ◌^◌, ◌<◌, ◌≤◌, cond, eqb, List, [], ◌∷◌, ◌++◌, drop, replicate, sym, refl, ap, ◌∙◌, ap₂, pow-suc, arith, drop_at, le-ltb, lt-ltb, eq-eqb, ne_eqb}
use native.Mathlib.Nat.{one-le-pow, pow-le-pow_right}
use lib.ListN.{length-replicate}
use Rattle.io.specs.Digits.{hex_digit_ascii, last_digits, IsDigitCount}
use Rattle.std.proofs.lemmas.Bool.{cases_lt}
use Rattle.std.proofs.Math.Logic.{⊎_elim}
use Rattle.text.specs.Putting.{decimal_up_to, decimal, empty_places, in_five}

-- by whether a number is below another
either : {A : Type 0} (m n : ℕ) → (m < n → A) → (n ≤ m → A) → A
either m n below not-below = ⊎_elim below not-below (cases_lt m n)

module _ (k n : ℕ) where
  last : n < 10 → decimal_up_to (suc k) n ≡ (48 + n) ∷ []
  unfolding decimal_up_to
  last h = rw (lt-ltb n 10 h)

  more : 10 ≤ n → decimal_up_to (suc k) n ≡ decimal_up_to k (n / 10) ++ ((48 + n % 10) ∷ [])
  unfolding decimal_up_to
  more h = rw (le-ltb n 10 h)

glyph-is : (n : ℕ) → hex_digit_ascii (n % 10) ≡ 48 + n % 10
glyph-is n =
    let h : n % 10 < 10 = omega arith in
    rw (lt-ltb (n % 10) 10 h)

-- the kit's digits, where there are as few as can be
kit : (k f n : ℕ) → k ≤ f → n < 10 ^ k * 10 → (0 < k → 10 ^ k ≤ n) → last_digits 10 (suc k) n ≡ decimal_up_to (suc f) n
kit zero f n l h g =
    let s : n < 10 = omega arith in
    let e : n % 10 ≡ n = omega arith in
    ap (λ (d : ℕ). d ∷ []) (glyph-is n ∙ ap (λ (d : ℕ). 48 + d) e) ∙ sym (last f n s)
kit (suc k) zero n l h g = absurd (omega arith)
kit (suc k) (suc f) n l h g =
    let e : 10 ^ suc k ≡ 10 ^ k * 10 = pow-suc 10 k in
    let low : 10 ^ suc k ≤ n = g (omega arith) in
    let some : 1 ≤ 10 ^ k = one-le-pow k 10 (omega arith) in
    ap₂ (λ (x : List ℕ) (d : ℕ). x ++ (d ∷ [])) (kit k f (n / 10) (omega arith) (omega arith) (λ _. omega arith)) (glyph-is n)
    ∙ sym (more (suc f) n (omega arith))

short : (n k : ℕ) → IsDigitCount 10 1 n k → n < 10 ^ 20 → k ≤ 20
short n k f h =
    either 20 k
    (λ l.
    let p : 10 ^ 20 ≤ 10 ^ (k - 1) = pow-le-pow_right {n = 10} (omega arith) {i = 20} {j = k - 1} (omega arith) in
    let q : 10 ^ (k - 1) ≤ n = f.2 (omega arith) in
    absurd (omega arith))
    (λ l. l)

pub kit-decimal : (n k : ℕ) → IsDigitCount 10 1 n k → n < 10 ^ 20 → last_digits 10 k n ≡ decimal n
unfolding decimal
kit-decimal n zero f h = absurd (omega arith)
kit-decimal n (suc k) f h =
    let e : suc k - 1 ≡ k = omega arith in
    let p : 10 ^ suc k ≡ 10 ^ k * 10 = pow-suc 10 k in
    let l : suc k ≤ 20 = short n (suc k) f h in
    kit k 19 n (omega arith) (omega arith) (λ g. rw e at (f.2 (omega arith)))

-- a number of one digit, of two and so on
module _ (n : ℕ) where
  pub one : n < 10 → decimal n ≡ (48 + n) ∷ []
  unfolding decimal
  one h = last 19 n h

  pub two : 10 ≤ n → n < 100 → decimal n ≡ (48 + n / 10) ∷ (48 + n % 10) ∷ []
  unfolding decimal
  two l h = rw (more 19 n l, last 18 (n / 10) (omega arith))

  pub three : 100 ≤ n → n < 1000 → decimal n ≡ (48 + n / 100) ∷ (48 + n / 10 % 10) ∷ (48 + n % 10) ∷ []
  unfolding decimal
  three l h =
      let e : n / 100 ≡ n / 10 / 10 = omega arith in
      rw (e, more 19 n (omega arith), more 18 (n / 10) (omega arith), last 17 (n / 10 / 10) (omega arith))

  pub four : 1000 ≤ n → n < 10000
      → decimal n ≡ (48 + n / 1000) ∷ (48 + n / 100 % 10) ∷ (48 + n / 10 % 10) ∷ (48 + n % 10) ∷ []
  unfolding decimal
  four l h =
      let e : n / 100 ≡ n / 10 / 10 = omega arith in
      let f : n / 1000 ≡ n / 10 / 10 / 10 = omega arith in
      rw (e, f, more 19 n (omega arith), more 18 (n / 10) (omega arith), more 17 (n / 10 / 10) (omega arith), last 16 (n / 10 / 10 / 10) (omega arith))

  pub five : 10000 ≤ n → n < 100000
      → decimal n ≡ (48 + n / 10000) ∷ (48 + n / 1000 % 10) ∷ (48 + n / 100 % 10) ∷ (48 + n / 10 % 10) ∷ (48 + n % 10) ∷ []
  unfolding decimal
  five l h =
      let e : n / 100 ≡ n / 10 / 10 = omega arith in
      let f : n / 1000 ≡ n / 10 / 10 / 10 = omega arith in
      let g : n / 10000 ≡ n / 10 / 10 / 10 / 10 = omega arith in
      rw (e, f, g, more 19 n (omega arith), more 18 (n / 10) (omega arith), more 17 (n / 10 / 10) (omega arith), more 16 (n / 10 / 10 / 10) (omega arith), last 15 (n / 10 / 10 / 10 / 10) (omega arith))

-- what the code puts at a place before the last: a digit, or a space for 0
abbrev leading : ℕ → ℕ
leading m = cond (eqb m 0) 32 (48 + m % 10)

pub space : (m : ℕ) → m ≡ 0 → leading m ≡ 32
space m e = rw (eq-eqb m 0 e)

pub digit : (m d : ℕ) → 0 < m → m % 10 ≡ d → leading m ≡ 48 + d
digit m d h e =
    let z : m ≡ 0 → ⊥ = λ w. omega arith in
    rw (ne_eqb m 0 z, e)

module _ (n : ℕ) where
  abbrev Placed : Type 0
  Placed = leading (n / 10000) ∷ leading (n / 1000) ∷ leading (n / 100) ∷ leading (n / 10) ∷ (48 + n % 10) ∷ [] ≡ in_five n

  placed-1 : n < 10 → Placed
  unfolding in_five empty_places
  placed-1 h =
      let e : n % 10 ≡ n = omega arith in
      rw (space (n / 10000) (omega arith), space (n / 1000) (omega arith), space (n / 100) (omega arith), space (n / 10) (omega arith), one n h, e)

  placed-2 : 10 ≤ n → n < 100 → Placed
  unfolding in_five empty_places
  placed-2 l h =
      rw (space (n / 10000) (omega arith), space (n / 1000) (omega arith), space (n / 100) (omega arith), digit (n / 10) (n / 10) (omega arith) (omega arith), two n l h)

  placed-3 : 100 ≤ n → n < 1000 → Placed
  unfolding in_five empty_places
  placed-3 l h =
      rw (space (n / 10000) (omega arith), space (n / 1000) (omega arith), digit (n / 100) (n / 100) (omega arith) (omega arith), digit (n / 10) (n / 10 % 10) (omega arith) refl, three n l h)

  placed-4 : 1000 ≤ n → n < 10000 → Placed
  unfolding in_five empty_places
  placed-4 l h =
      rw (space (n / 10000) (omega arith), digit (n / 1000) (n / 1000) (omega arith) (omega arith), digit (n / 100) (n / 100 % 10) (omega arith) refl, digit (n / 10) (n / 10 % 10) (omega arith) refl, four n l h)

  placed-5 : 10000 ≤ n → n < 100000 → Placed
  unfolding in_five empty_places
  placed-5 l h =
      rw (digit (n / 10000) (n / 10000) (omega arith) (omega arith), digit (n / 1000) (n / 1000 % 10) (omega arith) refl, digit (n / 100) (n / 100 % 10) (omega arith) refl, digit (n / 10) (n / 10 % 10) (omega arith) refl, five n l h)

  pub placed : n < 100000 → Placed
  placed h =
      either n 10 placed-1
      (λ l. either n 100 (placed-2 l)
      (λ l2. either n 1000 (placed-3 l2)
      (λ l3. either n 10000 (placed-4 l3)
      (λ l4. placed-5 l4 h))))

  pub unplaced : drop (empty_places n) (in_five n) ≡ decimal n
  unfolding in_five
  unplaced = drop_at (replicate (empty_places n) 32) (decimal n) (empty_places n) (length-replicate (empty_places n) 32)
