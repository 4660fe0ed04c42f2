-- The table of commands: its rows by ranges, the numbers that it has not, and the sizes that it has for payloads and answers.
-- Assumes nothing.
use mathlib.Core.Path.{◌≡◌, refl, sym, ap, ◌∙◌, subst}
use mathlib.Core.Bool.{Bool, true, false, ◌&&◌, ◌||◌}
use mathlib.Core.List.{List, [], ◌∷◌}
use Prim.Native.Nat.{ℕ, ◌+◌, ◌-◌, ◌≤◌, ◌<◌}
use native.Mathlib.Omega.{arith}
use lib.Dec.{T, leb, ltb, eqb, eqb→eq}
use lib.ListN.{length, take, drop, length-take, length-drop}
use borrow.Author.Tests.{le-leb, lt-leb, ne_eqb, eqb-true, ltb-true, ltb-false}
use Rattle.checksum.proofs.Below.{T_true, below, at}
use Rattle.telegram.specs.Numbers.{Outcome, refused_for, refused, done, after}
use Rattle.telegram.specs.Telegram.{listed}
use Rattle.telegram.proofs.Outcomes.{never, done-one}
use Rattle.table.specs.Table.{row_of, payload_fits, fits_row, size_right, answer_size_of}
use Rattle.table.specs.declared.Row.{Row}
use Rattle.table.proofs.Keys.{member, NoneOf, elsewhere}

-- The numbers that stand in the table by themselves, the last first.
abbrev pub keys : List ℕ
keys = 0x6F ∷ 0x6D ∷ 0x6B ∷ 0x4F ∷ 0x4E ∷ 0x4D ∷ 0x4C ∷ 0x4B ∷ 0x4A ∷ 0x48 ∷ 0x42 ∷ 0x40 ∷ 0x2D ∷ 0x0D ∷ 0x0C ∷ 0x07 ∷ []

-- The table has no row for a number: 6, which carries nothing.
abbrev pub bare-six : ℕ → List ℕ → Bool
bare-six n [] = eqb n 6
bare-six n (x ∷ l) = false

six-is : (n : ℕ) (l : List ℕ) → T (bare-six n l) → ◌≡◌ {A = Outcome Row} (refused 6) (refused_for (record { number = n; carries = l }))
six-is n [] t = ap refused (sym (eqb→eq n 6 t))
six-is n (x ∷ l) t = absurd t

unfoldable pub absent : Outcome Row → Bool
absent (refused_for d) = bare-six d.number d.carries
absent (done r) = false

pub absent-is : (o : Outcome Row) → T (absent o) → refused 6 ≡ o
unfolding absent
absent-is (refused_for d) t = six-is d.number d.carries t
absent-is (done r) t = absurd t

pub T-or : (a b : Bool) → a ≡ false → T (a || b) → T b
T-or a b e t = subst (λ (x : Bool). T (x || b)) e t

-- The numbers of the ranges.
abbrev ranged : ℕ → Bool
ranged n = leb n 0x06 || (leb 0x24 n && leb n 0x26)

-- A number outside the ranges that does not stand by itself is unknown: one test at each byte.
unranged-unknown : (n : ℕ) → n < 256 → ranged n ≡ false → NoneOf keys n → refused 6 ≡ row_of n
unfolding row_of absent
unranged-unknown n h r k =
    absent-is (row_of n)
    (T-or (ranged n) (absent (row_of n)) r (elsewhere (λ (m : ℕ). ranged m || absent (row_of m)) keys tt n h k))

pub row-between : (n : ℕ) → 7 ≤ n → n < 0x24 → NoneOf keys n → refused 6 ≡ row_of n
row-between n l h = unranged-unknown n (omega arith) (simp (lt-leb n 0x06 l, lt-leb 0x24 n h))

pub row-behind : (n : ℕ) → n < 256 → 0x27 ≤ n → NoneOf keys n → refused 6 ≡ row_of n
row-behind n h l = unranged-unknown n h (simp (lt-leb n 0x06 (omega arith), le-leb 0x24 n (omega arith), lt-leb n 0x26 l))

-- The table has no row past 6F.
pub row-high : (n : ℕ) → 0x6F < n → refused 6 ≡ row_of n
unfolding row_of
row-high n h =
    simp (
      lt-leb n 0x01 (omega arith),
      lt-leb n 0x03 (omega arith),
      lt-leb n 0x06 (omega arith),
      past 0x07 (omega arith),
      past 0x0C (omega arith),
      past 0x0D (omega arith),
      le-leb 0x24 n (omega arith),
      lt-leb n 0x26 (omega arith),
      past 0x2D (omega arith),
      past 0x40 (omega arith),
      past 0x42 (omega arith),
      past 0x48 (omega arith),
      past 0x4A (omega arith),
      past 0x4B (omega arith),
      past 0x4C (omega arith),
      past 0x4D (omega arith),
      past 0x4E (omega arith),
      past 0x4F (omega arith),
      past 0x6B (omega arith),
      past 0x6D (omega arith),
      past 0x6F (omega arith),
    )
  where
    past : (k : ℕ) → k < n → eqb n k ≡ false
    past k l = ne_eqb n k (λ (e : n ≡ k). omega arith)

-- The table's size for an answer, where it has one, is one that a telegram may carry.
carried : Outcome ℕ → Bool
carried (refused_for d) = true
carried (done k) = listed k

-- A number for whose answer the table has a size is at most 6F, and a telegram may carry that many bytes: one test at each number.
pub answer-listed : (n k : ℕ) → answer_size_of n ≡ done k → (n ≤ 0x6F) × (listed k ≡ true)
unfolding row_of carried
answer-listed n k e =
    let low : n ≤ 0x6F = go (ltb 0x6F n) refl in
    (low, T_true (listed k) (subst (λ (o : Outcome ℕ). T (carried o)) e (at (λ (m : ℕ). carried (answer_size_of m)) 0x70 tt n (omega arith))))
  where
    go : (b : Bool) → ltb 0x6F n ≡ b → n ≤ 0x6F
    go true h = absurd (never (ap (λ (o : Outcome Row). after o (λ (r : Row). done r.answer)) (row-high n (ltb-true 0x6F n h)) ∙ e))
    go false h = ltb-false 0x6F n h

-- The size that the table has for a number k is the one it has for n, where n is k.
pub sized : {n k x : ℕ} (size : ℕ → Outcome ℕ) (j : ℕ) → n ≡ k → size k ≡ done j → size n ≡ done x → x ≡ j
sized {n} {k} {x} size j e s h = sym (done-one (sym s ∙ sym (ap size e) ∙ h))

-- The only payload size that is right for n, where n is a number k with one size.
pub right-size : {n k x : ℕ} (j : ℕ) → n ≡ k → size_right k ≡ (λ (y : ℕ). eqb y j) → size_right n x ≡ true → x ≡ j
right-size {n} {k} {x} j e s h =
    eqb-true x j (sym (ap (λ (f : ℕ → Bool). f x) s) ∙ sym (ap (λ (m : ℕ). size_right m x) e) ∙ h)

-- The size that a number's row takes is right for the number.
pub row-right : (n x : ℕ) (r : Row) → row_of n ≡ done r → payload_fits r x ≡ true → size_right n x ≡ true
row-right n x r e f = ap (λ (o : Outcome Row). fits_row o x) e ∙ f

-- The numbers left that a list of numbers has not, and that a test of what the table has for them does not exclude, all pass a test: one
-- test at each byte.
pub only-left : {A : Type 0} (excluded : Outcome A → Bool) (entry : ℕ → Outcome A) (ks : List ℕ) (passes : ℕ → Bool)
    → T (below (λ (m : ℕ). member m ks || (excluded (entry m) || passes m)) 256)
    → (n : ℕ) → n < 256 → NoneOf ks n → excluded (entry n) ≡ false → passes n ≡ true
only-left excluded entry ks passes t n h no_key e =
    T_true (passes n)
    (T-or (excluded (entry n)) (passes n) e (elsewhere (λ (m : ℕ). excluded (entry m) || passes m) ks t n h no_key))

-- The part of a slice behind its first three bytes that is lent has as many bytes as were asked for.
part_length : (s : List ℕ) (k j : ℕ) → k ≡ j → 3 + k ≤ length s → j ≡ length (take (3 + k - 3) (drop 3 s))
part_length s k j e h = simp (length-take, length-drop) (omega arith)

-- Where the table has a row for a number, the part has a payload size that is right, or the answer size that the row says.
pub part_right : (n : ℕ) (r : Row) (s : List ℕ) (k : ℕ) → row_of n ≡ done r → payload_fits r k ≡ true → 3 + k ≤ length s
    → size_right n (length (take (3 + k - 3) (drop 3 s))) ≡ true
part_right n r s k e f h =
    row-right n _ r e (subst (λ (j : ℕ). payload_fits r j ≡ true) (part_length s k k refl h) f)

pub part-answer : (n : ℕ) (r : Row) (s : List ℕ) (k : ℕ) → row_of n ≡ done r → k ≡ r.answer → 3 + k ≤ length s
    → (r.answer ≡ 0 → ⊥)
    → (answer_size_of n ≡ done (length (take (3 + k - 3) (drop 3 s)))) × (0 < length (take (3 + k - 3) (drop 3 s)))
part-answer n r s k e f h z =
    let l = part_length s k r.answer f h in
    (simp e (ap done l), omega arith)
