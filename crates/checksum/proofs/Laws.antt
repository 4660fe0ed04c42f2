-- The laws of the checksum that callers use: it is below 256; over bytes with a byte behind them the remainder is 0
-- where that byte is their checksum, and only then.
-- Assumes nothing.
use mathlib.Core.Path.{◌≡◌, ◌∙◌, sym, ap, refl, subst}
use mathlib.Core.List.{List, [], ◌∷◌, ◌++◌}
use mathlib.Core.Bool.{Bool, true, not}
use Prim.Native.Nat.{ℕ, zero, suc, ◌*◌, ◌/◌, ◌%◌, ◌<◌}
use native.Mathlib.Omega.{arith}
use lib.Bits.{bit_xor, xor_self, xor_lt, xor_add_and, and_le_l, and_le_r}
use lib.Dec.{T, T_not, eqb, eqb_refl}
use Rattle.checksum.specs.Checksum.{shift_bit, shift_bits, remainder_byte, remainder_from, checksum_of}
use Rattle.checksum.proofs.Below.{below, at}

shift_bit-lt : (r : ℕ) → shift_bit r < 256
unfolding shift_bit
shift_bit-lt r = xor_lt 8 (r % 128 * 2) (r / 128 % 2 * 0x2F) (omega arith) (omega arith)

pub remainder_byte-lt : (r b : ℕ) → remainder_byte r b < 256
unfolding remainder_byte
remainder_byte-lt r b = shift_bit-lt _

remainder_from-lt : (s : List ℕ) (r : ℕ) → r < 256 → remainder_from r s < 256
remainder_from-lt [] r h = h
remainder_from-lt (b ∷ s) r h = remainder_from-lt s (remainder_byte r b) (remainder_byte-lt r b)

-- The checksum is a byte.
pub checksum-lt : (s : List ℕ) → checksum_of s < 256
unfolding checksum_of
checksum-lt s = remainder_from-lt s 0 (omega arith)

pub remainder-append : (s t : List ℕ) (r : ℕ) → remainder_from r (s ++ t) ≡ remainder_from (remainder_from r s) t
remainder-append [] t r = refl
remainder-append (b ∷ s) t r = remainder-append s t (remainder_byte r b)

-- Two numbers whose exclusive or is 0 are equal.
pub xor-zero : (x y : ℕ) → bit_xor x y ≡ 0 → x ≡ y
xor-zero x y e = omega (arith, xor_add_and x y, and_le_l x y, and_le_r x y)

-- Over eight bits only 0 goes to 0: one test at each byte.
kept : ℕ → Bool
kept zero = true
kept (suc n) = not (eqb (shift_bits 8 (suc n)) 0)

kept-all : T (below kept 256)
unfolding kept shift_bit
kept-all = tt

shift_zero : (n : ℕ) → n < 256 → shift_bits 8 n ≡ 0 → n ≡ 0
unfolding kept
shift_zero zero h e = refl
shift_zero (suc n) h e =
    absurd
    (T_not (eqb (shift_bits 8 (suc n)) 0) (at kept 256 kept-all (suc n) h)
    (subst (λ (k : ℕ). T (eqb (shift_bits 8 (suc n)) k)) e (eqb_refl (shift_bits 8 (suc n)))))

-- Over bytes with their own checksum behind them the remainder is 0 ..
pub residue : (s : List ℕ) (c : ℕ) → checksum_of s ≡ c → checksum_of (s ++ (c ∷ [])) ≡ 0
unfolding checksum_of remainder_byte shift_bit
residue s c e = remainder-append s (c ∷ []) 0 ∙ ap (λ (x : ℕ). remainder_byte x c) e ∙ ap (shift_bits 8) (xor_self c)

-- .. and only then.
pub residue-only : (s : List ℕ) (c : ℕ) → c < 256 → checksum_of (s ++ (c ∷ [])) ≡ 0 → checksum_of s ≡ c
unfolding checksum_of remainder_byte
residue-only s c h e =
    xor-zero (checksum_of s) c
    (shift_zero (bit_xor (checksum_of s) c) (xor_lt 8 (checksum_of s) c (checksum-lt s) h)
    (sym (remainder-append s (c ∷ []) 0) ∙ e))
