-- The acknowledged commands of the table: their plain forms, their rows, and that every other number with bit 5 is unknown.
-- Assumes nothing.
use mathlib.Core.Path.{◌≡◌, refl, sym, ap, ◌∙◌, subst}
use mathlib.Core.Logic.{◌⊎◌, inl, inr}
use mathlib.Core.Bool.{Bool, true, false, false≢true, not, ◌&&◌, ◌||◌}
use mathlib.Core.List.{List, [], ◌∷◌}
use Prim.Native.Nat.{ℕ, ◌-◌, ◌/◌, ◌%◌, ◌≤◌, ◌<◌}
use native.Mathlib.Omega.{arith}
use native.Mathlib.Nat.{eq-or-lt_of_le}
use lib.Dec.{eqb, leb, ltb, eqb→eq, lit≤}
use borrow.Author.Tests.{eqb-true, leb-true, eq-eqb, ltb-true, ltb-false}
use Rattle.checksum.proofs.Below.{at}
use Rattle.telegram.specs.Numbers.{refused, done}
use Rattle.telegram.specs.declared.Address.{Address}
use Rattle.table.specs.Table.{row, row_of, acknowledged, plain_number, cast_listed, answer_size_of}
use Rattle.table.specs.declared.Cast.{Cast}
use Rattle.table.specs.declared.Cast.TheVariants.{Everyone, One, Group}
use Rattle.table.specs.declared.Casts.TheVariants.{Single}
use Rattle.table.specs.declared.Row.{Row}
use Rattle.table.proofs.Both.{and_left, and_right}
use Rattle.table.proofs.Keys.{NoneOf, elsewhere}
use Rattle.table.proofs.Table.{T-or, absent, absent-is, row-high}

-- One of two tests that hold together holds.
or_split : (a b : Bool) → (a || b) ≡ true → (a ≡ true) ⊎ (b ≡ true)
or_split true b h = inl refl
or_split false b h = inr h

-- What holds at each of the seven numbers holds of every acknowledged one.
pub by-acknowledged : (P : ℕ → Type 0) → P 0x24 → P 0x25 → P 0x26 → P 0x2D → P 0x6B → P 0x6D → P 0x6F
    → (n : ℕ) → acknowledged n ≡ true → P n
unfolding acknowledged
by-acknowledged P a b c d e f g n h = go (or_split _ _ h)
  where
    is : {k : ℕ} → P k → eqb n k ≡ true → P n
    is {k} p q = subst P (sym (eqb-true n k q)) p

    third : 0x26 ≤ n → n ≤ 0x26 → P n
    third l u = let z : 0x26 ≡ n = omega arith in subst P z c

    second : (0x25 ≡ n) ⊎ (0x25 < n) → n ≤ 0x26 → P n
    second (inl q) u = subst P q b
    second (inr l) u = third l u

    first : (0x24 ≡ n) ⊎ (0x24 < n) → n ≤ 0x26 → P n
    first (inl q) u = subst P q a
    first (inr l) u = second (eq-or-lt_of_le l) u

    pwm : (eqb n 0x6D ≡ true) ⊎ (eqb n 0x6F ≡ true) → P n
    pwm (inl q) = is f q
    pwm (inr q) = is g q

    setup : (eqb n 0x6B ≡ true) ⊎ ((eqb n 0x6D || eqb n 0x6F) ≡ true) → P n
    setup (inl q) = is e q
    setup (inr q) = pwm (or_split _ _ q)

    mult : (eqb n 0x2D ≡ true) ⊎ ((eqb n 0x6B || (eqb n 0x6D || eqb n 0x6F)) ≡ true) → P n
    mult (inl q) = is d q
    mult (inr q) = setup (or_split _ _ q)

    go : ((leb 0x24 n && leb n 0x26) ≡ true) ⊎ ((eqb n 0x2D || (eqb n 0x6B || (eqb n 0x6D || eqb n 0x6F))) ≡ true) → P n
    go (inl q) = first (eq-or-lt_of_le (leb-true 0x24 n (and_left _ _ q))) (leb-true n 0x26 (and_right (leb 0x24 n) _ q))
    go (inr q) = mult (or_split _ _ q)

-- What holds of an acknowledged number, and of any other, holds of every number.
by-either : (P : ℕ → Type 0) (n : ℕ) → (acknowledged n ≡ true → P n) → (acknowledged n ≡ false → P n) → P n
by-either P n y o = go (acknowledged n) refl
  where
    go : (b : Bool) → acknowledged n ≡ b → P n
    go true e = y e
    go false e = o e

-- An acknowledged number has bit 5, and its plain form is without it.
pub plain-above : (n : ℕ) → acknowledged n ≡ true → 0x20 ≤ n
plain-above = by-acknowledged (λ (n : ℕ). 0x20 ≤ n) (lit≤ tt) (lit≤ tt) (lit≤ tt) (lit≤ tt) (lit≤ tt) (lit≤ tt) (lit≤ tt)

pub plain-less : (n : ℕ) → acknowledged n ≡ true → plain_number n ≡ n - 0x20
unfolding plain_number
plain-less n h = simp h

-- Any other number is its own plain form.
pub plain-self : (n : ℕ) → acknowledged n ≡ false → plain_number n ≡ n
unfolding plain_number
plain-self n h = simp h

-- A plain form has no other.
pub plain-plain : (n : ℕ) → plain_number (plain_number n) ≡ plain_number n
unfolding plain_number acknowledged
plain-plain n =
    by-either (λ (m : ℕ). plain_number (plain_number m) ≡ plain_number m) n
    (by-acknowledged (λ (m : ℕ). plain_number (plain_number m) ≡ plain_number m) refl refl refl refl refl refl refl n)
    (λ e. ap plain_number (plain-self n e))

-- It is 00 or 01 only of RESET and CLRERROR, which have no acknowledged form.
pub plain-low : (n : ℕ) → leb (plain_number n) 0x01 ≡ leb n 0x01
unfolding plain_number acknowledged
plain-low n =
    by-either (λ (m : ℕ). leb (plain_number m) 0x01 ≡ leb m 0x01) n
    (by-acknowledged (λ (m : ℕ). leb (plain_number m) 0x01 ≡ leb m 0x01) refl refl refl refl refl refl refl n)
    (λ e. ap (λ (m : ℕ). leb m 0x01) (plain-self n e))

pub plain-reset : (n : ℕ) → plain_number n ≡ 0x00 → n ≡ 0x00
unfolding plain_number acknowledged
plain-reset n =
    by-either (λ (m : ℕ). plain_number m ≡ 0x00 → m ≡ 0x00) n
    (by-acknowledged (λ (m : ℕ). plain_number m ≡ 0x00 → m ≡ 0x00) (λ z. absurd (omega arith)) (λ z. absurd (omega arith)) (λ z. absurd (omega arith)) (λ z. absurd (omega arith)) (λ z. absurd (omega arith)) (λ z. absurd (omega arith)) (λ z. absurd (omega arith)) n)
    (λ e z. sym (plain-self n e) ∙ z)

-- The row of an acknowledged command: one lamp, the payload of its plain form, two answer bytes.
pub acknowledged-row : (n : ℕ) → acknowledged n ≡ true
    → (r : Row) × ((row_of (plain_number n) ≡ done r) × (row_of n ≡ row Single r.payload 2))
unfolding plain_number acknowledged row_of
acknowledged-row =
    by-acknowledged (λ (n : ℕ). (r : Row) × ((row_of (plain_number n) ≡ done r) × (row_of n ≡ row Single r.payload 2)))
    (_, (refl, refl)) (_, (refl, refl)) (_, (refl, refl)) (_, (refl, refl)) (_, (refl, refl)) (_, (refl, refl)) (_, (refl, refl))

-- A cast that the column of one lamp lists is one lamp.
pub one-listed : (cast : Cast) → cast_listed Single cast ≡ true → (a : Address) × (cast ≡ One a)
one-listed Everyone h = absurd (false≢true h)
one-listed (One a) h = (a, refl)
one-listed (Group g) h = absurd (false≢true h)

-- The answer to an acknowledged command has two bytes.
pub acknowledged-answer : (n : ℕ) → acknowledged n ≡ true → answer_size_of n ≡ done 2
unfolding row_of
acknowledged-answer = by-acknowledged (λ (n : ℕ). answer_size_of n ≡ done 2) refl refl refl refl refl refl refl

-- Any other number with bit 5 set is unknown, also 20 and 21: one test at each number up to 6F.
pub bit-five : (n : ℕ) → n / 0x20 % 2 ≡ 1 → acknowledged n ≡ false → refused 6 ≡ row_of n
unfolding acknowledged row_of absent
bit-five n five other = go (ltb 0x6F n) refl
  where
    go : (b : Bool) → ltb 0x6F n ≡ b → refused 6 ≡ row_of n
    go true h = row-high n (ltb-true 0x6F n h)
    go false h =
        let low : n ≤ 0x6F = ltb-false 0x6F n h in
        absent-is (row_of n)
        (T-or (acknowledged n) (absent (row_of n)) other
        (T-or (not (eqb (n / 0x20 % 2) 1)) (acknowledged n || absent (row_of n)) (ap not (eq-eqb (n / 0x20 % 2) 1 five))
        (at (λ (m : ℕ). not (eqb (m / 0x20 % 2) 1) || (acknowledged m || absent (row_of m))) 0x70 tt n (omega arith))))

-- The seven but the last, the last of them first: an acknowledged number that is none of these is 6F. One test at each byte.
abbrev pub six : List ℕ
six = 0x6D ∷ 0x6B ∷ 0x2D ∷ 0x26 ∷ 0x25 ∷ 0x24 ∷ []

pub last-acknowledged : (n : ℕ) → n < 256 → NoneOf six n → acknowledged n ≡ true → n ≡ 0x6F
unfolding acknowledged
last-acknowledged n h k e =
    eqb→eq n 0x6F
    (T-or (not (acknowledged n)) (eqb n 0x6F) (ap not e)
    (elsewhere (λ (m : ℕ). not (acknowledged m) || eqb m 0x6F) six tt n h k))

-- A number that is none of the seven is not acknowledged.
pub unacknowledged : (n : ℕ) → NoneOf (0x6F ∷ six) n → acknowledged n ≡ false
unacknowledged n h = go (acknowledged n) refl
  where
    go : (b : Bool) → acknowledged n ≡ b → b ≡ false
    go false e = refl
    go true e =
        absurd
        (by-acknowledged (λ (m : ℕ). n ≡ m → ⊥) h.0.0.0.0.0.0.1 h.0.0.0.0.0.1 h.0.0.0.0.1 h.0.0.0.1 h.0.0.1 h.0.1 h.1
        n e refl)
