-- The lamps of a record, read place by place.
-- Assumes nothing.
use mathlib.Core.Path.{◌≡◌, refl, ap, ◌∙◌}
use mathlib.Core.Bool.{Bool, ◌&&◌, ◌||◌, and-true, and_assoc, or-false, or_assoc}
use mathlib.Core.List.{List, [], ◌∷◌, ◌++◌, append_assoc}
use Prim.Native.Nat.{ℕ, zero, suc, ◌+◌, ◌*◌, ◌-◌, ◌≤◌, ◌<◌}
use native.Mathlib.Omega.{arith}
use native.Mathlib.Numerals.{add-one}
use native.Mathlib.Nat.{not-suc-le-zero, le_of_suc-le-suc, zero-add, suc-add, sub-zero, sub_self}
use lib.Dec.{eqb}
use lib.ListN.{length, get_or, take, drop, length-append, length-drop}
use lib.Seq.{drop_at, drop-drop, take-add, get_or_at}
use borrow.Author.Tests.{eq-eqb, ne_eqb}
use Rattle.telegram.specs.Telegram.{Bytes}
use Rattle.rules.specs.declared.Lamp.{Lamp}
use Rattle.rules.specs.Lamp.{no_address}
use Rattle.telegram.specs.Numbers.{refused, done}
use Rattle.rules.specs.Chain.{lamp_right, lamps_right, any_unaddressed, lamp_in}
use Rattle.slot.specs.Slot.{slot_size, lamp_of, slot_of}
use Rattle.chain.specs.Record.{header_size, slot_at, lamps_of, slots_of, lamps_in}
use Rattle.chain.specs.Places.{lamp_at, place_from}
use Rattle.std.specs.Prelude.{Some, None}
use Rattle.slot.proofs.Slots.{slot-length, lamp-slot, slot-lamp}
use Rattle.chain.proofs.Slots.{bytes_drop}

-- The lamps from place i up to place n: what is left of a reading walk.
unfoldable pub rest : ℕ → ℕ → List ℕ → List Lamp
rest i n mem = lamps_of (n - i) (drop (slot_at i) mem)

-- From place 0 on they are all, from n on none, and else the lamp at i and what is left behind it.
pub rest_all : (n : ℕ) (mem : List ℕ) → rest 0 n mem ≡ lamps_in n mem
unfolding rest lamps_in
rest_all n mem = rw sub-zero

pub rest-none : (n : ℕ) (mem : List ℕ) → rest n n mem ≡ []
unfolding rest lamps_of
rest-none n mem = rw sub_self

pub rest_more : (i n : ℕ) (mem : List ℕ) → i < n → rest i n mem ≡ lamp_at mem i ∷ rest (i + 1) n mem
unfolding rest lamps_of lamp_at
rest_more i n mem h =
    let e : n - i ≡ suc (n - (i + 1)) = omega arith in
    let d : slot_at i + slot_size ≡ slot_at (i + 1) = omega arith in
    rw (e, drop-drop, d)

-- The lookup, from place i on: the lamp is there, behind it, or nowhere.
module _ (i n a : ℕ) (mem : List ℕ) (h : i < n) where
  pub place_here : (lamp_at mem i).address.0 ≡ a → place_from i a (rest i n mem) ≡ Some (record { 0 = i })
  unfolding place_from
  place_here e = rw (rest_more i n mem h, eq-eqb (lamp_at mem i).address.0 a e)

  pub place-next : ((lamp_at mem i).address.0 ≡ a → ⊥) → place_from i a (rest i n mem) ≡ place_from (i + 1) a (rest (i + 1) n mem)
  unfolding place_from
  place-next e = rw (rest_more i n mem h, ne_eqb (lamp_at mem i).address.0 a e, add-one)

pub place_none : (n a : ℕ) (mem : List ℕ) → place_from n a (rest n n mem) ≡ None
unfolding place_from
place_none n a mem = rw rest-none

-- The test of all lamps, gathered lamp by lamp up to the last.
pub right-step : (ok : Bool) (i n : ℕ) (mem : List ℕ) → i < n
    → ((ok && lamp_right (lamp_at mem i)) && lamps_right (rest (i + 1) n mem)) ≡ (ok && lamps_right (rest i n mem))
right-step ok i n mem h =
    rw (rest_more i n mem h) (and_assoc ok (lamp_right (lamp_at mem i)) (lamps_right (rest (i + 1) n mem)))

pub right-none : (ok : Bool) (n : ℕ) (mem : List ℕ) → (ok && lamps_right (rest n n mem)) ≡ ok
right-none ok n mem = rw rest-none (and-true ok)

-- Whether any lamp has no address, likewise.
pub unaddressed-step : (any : Bool) (i n : ℕ) (mem : List ℕ) → i < n
    → ((any || eqb (lamp_at mem i).address.0 no_address.0) || any_unaddressed (rest (i + 1) n mem))
    ≡ (any || any_unaddressed (rest i n mem))
unaddressed-step any i n mem h =
    rw (rest_more i n mem h) (or_assoc any (eqb (lamp_at mem i).address.0 no_address.0) (any_unaddressed (rest (i + 1) n mem)))

pub unaddressed-none : (any : Bool) (n : ℕ) (mem : List ℕ) → (any || any_unaddressed (rest n n mem)) ≡ any
unaddressed-none any n mem = rw rest-none (or-false any)

-- Lists of slots: how long they are, that they hold their lamps, how they are joined and cut, and that bytes are what they hold.
pub length-slots_of : (xs : List Lamp) → length (slots_of xs) ≡ slot_size * length xs
unfolding slots_of
length-slots_of [] = refl
length-slots_of (x ∷ xs) = simp (length-append, slot-length, length-slots_of xs) (omega arith)

pub lamps-slots : (xs : List Lamp) (after : List ℕ) → lamps_of (length xs) (slots_of xs ++ after) ≡ xs
unfolding lamps_of slots_of
lamps-slots [] after = refl
lamps-slots (x ∷ xs) after =
    rw (append_assoc, lamp-slot, drop_at (slot_of x) (slots_of xs ++ after) slot_size (slot-length x), lamps-slots xs after)

pub slots_of-append : (xs ys : List Lamp) → slots_of (xs ++ ys) ≡ slots_of xs ++ slots_of ys
unfolding slots_of
slots_of-append [] ys = refl
slots_of-append (x ∷ xs) ys = rw (append_assoc, slots_of-append xs ys)

pub length-lamps_of : (n : ℕ) (s : List ℕ) → length (lamps_of n s) ≡ n
unfolding lamps_of
length-lamps_of zero s = refl
length-lamps_of (suc n) s = ap suc (length-lamps_of n (drop slot_size s))

lamps_of-add : (i k : ℕ) (s : List ℕ) → lamps_of (i + k) s ≡ lamps_of i s ++ lamps_of k (drop (slot_size * i) s)
unfolding lamps_of
lamps_of-add zero k s = rw zero-add
lamps_of-add (suc i) k s =
    let e : slot_size + slot_size * i ≡ slot_size * suc i = omega arith in
    rw suc-add (ap (λ (t : List Lamp). lamp_of s ∷ t) (lamps_of-add i k (drop slot_size s) ∙ rw (drop-drop, e)))

pub slots-lamps : (n : ℕ) (s : List ℕ) → Bytes s → slot_size * n ≤ length s → slots_of (lamps_of n s) ≡ take (slot_size * n) s
unfolding slots_of lamps_of
slots-lamps zero s b h = refl
slots-lamps (suc n) s b h =
    let k : slot_size * n ≤ length (drop slot_size s) = simp length-drop (omega arith) in
    let e : slot_size * suc n ≡ slot_size + slot_size * n = omega arith in
    rw (slot-lamp s b (omega arith), slots-lamps n (drop slot_size s) (bytes_drop slot_size s b) k, e, take-add)

-- The first n lamps are n.
pub length-lamps_in : (n : ℕ) (mem : List ℕ) → length (lamps_in n mem) ≡ n
unfolding lamps_in
length-lamps_in n mem = length-lamps_of n (drop header_size mem)

-- They are those before place p, the lamp at p, and those behind it.
pub lamps-at : (p n : ℕ) (mem : List ℕ) → p < n → lamps_in n mem ≡ lamps_in p mem ++ (lamp_at mem p ∷ rest (p + 1) n mem)
unfolding lamps_in rest
lamps-at p n mem h =
    let e : n ≡ p + (n - p) = omega arith in
    ap (λ (k : ℕ). lamps_of k (drop header_size mem)) e
    ∙ lamps_of-add p (n - p) (drop header_size mem)
    ∙ rw drop-drop (ap (λ (t : List Lamp). lamps_in p mem ++ t) (rest_more p n mem h))

-- So the lamp of them at place p is the one there ..
pub getD-lamps_in : (p n : ℕ) (mem : List ℕ) (y : Lamp) → p < n → get_or (lamps_in n mem) p y ≡ lamp_at mem p
getD-lamps_in p n mem y h =
    rw (lamps-at p n mem h) (get_or_at (lamps_in p mem) (lamp_at mem p) (rest (p + 1) n mem) y p (length-lamps_in p mem))

pub lamp_in-at : (p n : ℕ) (mem : List ℕ) → p < n → lamp_in (lamps_in n mem) p ≡ done (lamp_at mem p)
lamp_in-at p n mem h =
    lamp_in-getD (lamps_in n mem) p (lamp_at mem p) (rw length-lamps_in h) ∙ ap done (getD-lamps_in p n mem (lamp_at mem p) h)
  where
    lamp_in-getD : (xs : List Lamp) (q : ℕ) (y : Lamp) → q < length xs → lamp_in xs q ≡ done (get_or xs q y)
    lamp_in-getD [] q y k = absurd (not-suc-le-zero k)
    lamp_in-getD (x ∷ xs) zero y k = refl
    lamp_in-getD (x ∷ xs) (suc q) y k = lamp_in-getD xs q y (le_of_suc-le-suc k)

-- .. and from place n on there is none.
pub lamp_in-none : (p n : ℕ) (mem : List ℕ) → n ≤ p → lamp_in (lamps_in n mem) p ≡ refused 13
lamp_in-none p n mem h = lamp_in-past (lamps_in n mem) p (rw length-lamps_in h)
  where
    lamp_in-past : (xs : List Lamp) (q : ℕ) → length xs ≤ q → lamp_in xs q ≡ refused 13
    lamp_in-past [] q k = refl
    lamp_in-past (x ∷ xs) zero k = absurd (not-suc-le-zero k)
    lamp_in-past (x ∷ xs) (suc q) k = lamp_in-past xs q (le_of_suc-le-suc k)
