-- A lamp and its slot, there and back.
-- Assumes nothing.
use mathlib.Core.Path.{◌≡◌, refl, sym, ap}
use mathlib.Core.Bool.{Bool, true, false}
use mathlib.Core.List.{List, [], ◌∷◌, ◌++◌}
use Prim.Native.Nat.{ℕ, zero, suc, ◌+◌, ◌*◌, ◌/◌, ◌%◌, ◌≤◌, ◌<◌}
use native.Mathlib.Omega.{arith}
use native.Mathlib.Nat.{not-suc-le-zero, le_of_suc-le-suc}
use lib.Dec.{eqb, eqb→eq, lit≤}
use lib.ListN.{length, get_or, take}
use borrow.Author.Tests.{eqb-true, eqb-false, eq-eqb, ne_eqb}
use Rattle.checksum.proofs.Below.{at}
use Rattle.telegram.specs.Telegram.{Bytes}
use Rattle.rules.specs.declared.State.{State}
use Rattle.rules.specs.declared.State.TheVariants.{Uninitialized, Sleep, Active, DeepSleep}
use Rattle.rules.specs.declared.Flags.{Flags}
use Rattle.rules.specs.declared.Lamp.{Lamp}
use Rattle.rules.specs.Lamp.{state_number, bit, status_byte}
use Rattle.slot.specs.Slot.{slot_size, state_in, direction_in, flags_in, lamp_of, slot_of}

-- The digits of a status byte, over plain numbers.
module _ (st a b c d e f : ℕ) (ha : a ≤ 1) (hb : b ≤ 1) (hc : c ≤ 1) (hd : d ≤ 1) (he : e ≤ 1) (hf : f ≤ 1) where
  abbrev packed : ℕ
  packed = st * 64 + a * 32 + b * 16 + c * 8 + d * 4 + e * 2 + f

  digit-64 : packed / 64 ≡ st
  digit-64 = omega arith

  digit-32 : packed / 32 % 2 ≡ a
  digit-32 = omega arith

  digit-16 : packed / 16 % 2 ≡ b
  digit-16 = omega arith

  digit-8 : packed / 8 % 2 ≡ c
  digit-8 = omega arith

  digit-4 : packed / 4 % 2 ≡ d
  digit-4 = omega arith

  digit-2 : packed / 2 % 2 ≡ e
  digit-2 = omega arith

  digit-1 : packed % 2 ≡ f
  digit-1 = omega arith

bit-small : (b : Bool) → bit b ≤ 1
bit-small true = lit≤ tt
bit-small false = lit≤ tt

bit-back : (b : Bool) → eqb (bit b) 1 ≡ b
bit-back true = refl
bit-back false = refl

state-back : (s : State) (b : ℕ) → b / 64 ≡ state_number s → state_in b ≡ s
state-back Uninitialized b e = rw e
state-back Sleep b e = rw e
state-back Active b e = rw e
state-back DeepSleep b e = rw e

-- A status byte has the state, the direction and the flags that it was made of.
pub state-in : (s : State) (d : Bool) (f : Flags) → state_in (status_byte s d f) ≡ s
state-in s d f = state-back s (status_byte s d f) (simp (digit-64, bit-small))

pub direction-in : (s : State) (d : Bool) (f : Flags) → direction_in (status_byte s d f) ≡ d
direction-in s d f = simp (digit-16, bit-small, bit-back)

pub flags-in : (s : State) (d : Bool) (f : Flags) → flags_in (status_byte s d f) ≡ f
flags-in s d f = simp (digit-32, digit-8, digit-4, digit-2, digit-1, bit-small, bit-back)

-- And a byte is the status byte of what it has.
pub status-back : (b : ℕ) → b < 256 → status_byte (state_in b) (direction_in b) (flags_in b) ≡ b
status-back b h = eqb→eq _ b (at (λ (x : ℕ). eqb (status_byte (state_in x) (direction_in x) (flags_in x)) x) 256 tt b h)

-- A slot has 16 bytes.
pub slot-length : (l : Lamp) → length (slot_of l) ≡ slot_size
unfolding slot_of
slot-length l = refl

-- The bytes of a word hold it.
pub word_in : (w : ℕ) → w / 256 * 256 + w % 256 ≡ w
word_in w = omega arith

-- A slot holds its lamp, whatever lies behind it.
pub lamp-slot : (l : Lamp) (rest : List ℕ) → lamp_of (slot_of l ++ rest) ≡ l
unfolding lamp_of slot_of
lamp-slot l rest = simp (word_in, state-in, direction-in, flags-in)

-- A word of two bytes has them.
pub high-back : (h l : ℕ) → l < 256 → (h * 256 + l) / 256 ≡ h
high-back h l p = omega arith

pub low-back : (h l : ℕ) → l < 256 → (h * 256 + l) % 256 ≡ l
low-back h l p = omega arith

-- Two bytes are those of a word also if both are read with the low byte on top.
pub swapped : (h l a : ℕ) → h < 256 → l < 256 → a / 256 < 256 → eqb (l * 256 + h) (a % 256 * 256 + a / 256) ≡ eqb (h * 256 + l) a
swapped h l a ph pl pa = go (eqb (h * 256 + l) a) refl
  where
    go : (b : Bool) → eqb (h * 256 + l) a ≡ b → eqb (l * 256 + h) (a % 256 * 256 + a / 256) ≡ b
    go true e = let q : h * 256 + l ≡ a = eqb-true _ _ e in eq-eqb (l * 256 + h) (a % 256 * 256 + a / 256) (omega arith)
    go false e = ne_eqb (l * 256 + h) (a % 256 * 256 + a / 256) (λ q. eqb-false (h * 256 + l) a e (omega arith))

-- The first n elements of a list, by their index.
abbrev pub firsts : ℕ → (ℕ → ℕ) → List ℕ
firsts zero f = []
firsts (suc n) f = f zero ∷ firsts n (λ i. f (suc i))

pub take-firsts : (n : ℕ) (s : List ℕ) → n ≤ length s → take n s ≡ firsts n (λ i. get_or s i 0)
take-firsts zero s h = refl
take-firsts (suc n) [] h = absurd (not-suc-le-zero h)
take-firsts (suc n) (x ∷ s) h = ap (λ (t : List ℕ). x ∷ t) (take-firsts n s (le_of_suc-le-suc h))

-- Bytes that make a slot are the slot of the lamp that they hold.
pub slot-lamp : (s : List ℕ) → Bytes s → slot_size ≤ length s → slot_of (lamp_of s) ≡ take slot_size s
unfolding lamp_of slot_of
slot-lamp s b h = simp (high-back, low-back, status-back, b) (sym (take-firsts slot_size s h))

-- The lamp in a slot is in the slot alone, whatever lies behind it.
pub lamp-front : (s : List ℕ) → slot_size ≤ length s → lamp_of (take slot_size s) ≡ lamp_of s
unfolding lamp_of
lamp-front s h = rw (take-firsts slot_size s h)
