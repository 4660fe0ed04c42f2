-- Fields and payload bytes, there and back, for every layout.
-- Assumes nothing.
use mathlib.Core.Path.{◌≡◌, ◌∙◌, refl, ap, ap₂, subst}
use mathlib.Core.Bool.{Bool, true, not, ◌||◌}
use mathlib.Core.List.{List, [], ◌∷◌, ◌++◌}
use Prim.Native.Nat.{ℕ, zero, suc, ◌+◌, ◌*◌, ◌/◌, ◌%◌, ◌≤◌, ◌<◌}
use native.Mathlib.Omega.{arith}
use lib.Dec.{T, leb, eqb, eqb→eq}
use lib.ListN.{length, get_or}
use borrow.Author.Tests.{le-leb}
use Rattle.checksum.proofs.Below.{below, at}
use Rattle.telegram.specs.Telegram.{Bytes}
use Rattle.table.specs.Table.{row_of, acknowledged, plain_number, size_right}
use Rattle.command.specs.Fields.{Layout, octets, word, long, pwm, word_at, word_bytes, pwm_bytes, fields_by, payload_by, duties_in_range, layout_of}

-- k elements of a list from an index on
abbrev pub elements : ℕ → List ℕ → ℕ → List ℕ
elements zero p i = []
elements (suc k) p i = get_or p i 0 ∷ elements k p (suc i)

shifted : (k : ℕ) (x : ℕ) (p : List ℕ) (i : ℕ) → elements k (x ∷ p) (suc i) ≡ elements k p i
shifted zero x p i = refl
shifted (suc k) x p i = ap (λ (l : List ℕ). get_or p i 0 ∷ l) (shifted k x p (suc i))

whole-list : (p : List ℕ) → elements (length p) p 0 ≡ p
whole-list [] = refl
whole-list (x ∷ p) = ap (λ (l : List ℕ). x ∷ l) (shifted (length p) x p 0 ∙ whole-list p)

-- A list of n elements is those.
pub spread : (n : ℕ) (p : List ℕ) → length p ≡ n → elements n p 0 ≡ p
spread n p e = subst (λ (m : ℕ). elements m p 0 ≡ p) e (whole-list p)

-- How many bytes a payload has of which a layout makes other fields than its bytes.
abbrev pub Wide : Layout → List ℕ → Type 0
Wide octets p = Unit {0}
Wide word p = length p ≡ 2
Wide long p = length p ≡ 4
Wide pwm p = length p ≡ 6

-- A payload of k bytes is as wide as a layout wants.
unfoldable pub as_wide : Layout → ℕ → Bool
as_wide octets k = true
as_wide word k = eqb k 2
as_wide long k = eqb k 4
as_wide pwm k = eqb k 6

wide_by : (l : Layout) (p : List ℕ) → T (as_wide l (length p)) → Wide l p
unfolding as_wide
wide_by octets p t = tt
wide_by word p t = eqb→eq (length p) 2 t
wide_by long p t = eqb→eq (length p) 4 t
wide_by pwm p t = eqb→eq (length p) 6 t

-- So a payload whose size is right for its number is as wide as its layout wants: one test at each number of seven bits and each
-- size up to 8.
pub wide : (layout : ℕ → Layout) (right : ℕ → ℕ → Bool)
    → T (below (λ (m : ℕ). below (λ (k : ℕ). not (right m k) || as_wide (layout m) k) 9) 128)
    → (n : ℕ) → n ≤ 127 → (p : List ℕ) → length p ≤ 8 → right n (length p) ≡ true → Wide (layout n) p
wide layout right t n h p l e =
    let sizes : ℕ → ℕ → Bool = λ (m k : ℕ). not (right m k) || as_wide (layout m) k in
    wide_by (layout n) p
    (subst (λ (b : Bool). T (not b || as_wide (layout n) (length p))) e
    (at (sizes n) 9 (at (λ (m : ℕ). below (sizes m) 9) 128 t n (omega arith)) (length p) (omega arith)))

pub command-wide : (n : ℕ) → n ≤ 127 → (p : List ℕ) → length p ≤ 8 → size_right n (length p) ≡ true → Wide (layout_of n) p
unfolding as_wide layout_of row_of acknowledged plain_number
command-wide = wide layout_of size_right tt

word_lt : (p : List ℕ) → Bytes p → (i : ℕ) → word_at p i < 65536
word_lt p y i = omega (arith, y i, y (i + 1))

word_back : (p : List ℕ) → Bytes p → (i : ℕ) → word_bytes (word_at p i) ≡ get_or p i 0 ∷ get_or p (i + 1) 0 ∷ []
word_back p y i =
    let a = get_or p i 0 in
    let b = get_or p (i + 1) 0 in
    let h : b < 256 = y (i + 1) in
    let e₁ : (a * 256 + b) / 256 ≡ a = omega arith in
    let e₂ : (a * 256 + b) % 256 ≡ b = omega arith in
    ap₂ (λ (x z : ℕ). x ∷ z ∷ []) e₁ e₂

pwm-back : (p : List ℕ) → Bytes p → (i : ℕ) → pwm_bytes (word_at p i / 32768) (word_at p i % 32768) ≡ get_or p i 0 ∷ get_or p (i + 1) 0 ∷ []
pwm-back p y i =
    let w = word_at p i in
    let e : w / 32768 * 32768 + w % 32768 % 32768 ≡ w = omega arith in
    ap word_bytes e ∙ word_back p y i

-- The fields of a payload make the same payload again.
pub payload-back : (l : Layout) (p : List ℕ) → Bytes p → Wide l p → payload_by l (fields_by l p) ≡ p
payload-back octets p y h = refl
payload-back word p y h = word_back p y 0 ∙ spread 2 p h
payload-back long p y h =
    let u = word_at p 0 in
    let v = word_at p 2 in
    let h₂ : v < 65536 = word_lt p y 2 in
    let e₁ : (u * 65536 + v) / 65536 ≡ u = omega arith in
    let e₂ : (u * 65536 + v) % 65536 ≡ v = omega arith in
    ap₂ (λ (x z : ℕ). word_bytes x ++ word_bytes z) e₁ e₂ ∙ ap₂ (λ (x z : List ℕ). x ++ z) (word_back p y 0) (word_back p y 2) ∙ spread 4 p h
payload-back pwm p y h =
    ap₂ (λ (x z : List ℕ). x ++ z)
    (ap₂ (λ (x z : List ℕ). x ++ z) (pwm-back p y 0) (pwm-back p y 2))
    (pwm-back p y 4)
    ∙ spread 6 p h

-- The duties that bytes hold are in range.
pub duties-back : (l : Layout) (p : List ℕ) → duties_in_range l (fields_by l p) ≡ true
duties-back octets p = refl
duties-back word p = refl
duties-back long p = refl
duties-back pwm p = simp (duty-le (word_at p 0), duty-le (word_at p 2), duty-le (word_at p 4))
  where
    duty-le : (w : ℕ) → leb (w % 32768) 32767 ≡ true
    duty-le w = le-leb (w % 32768) 32767 (omega arith)
