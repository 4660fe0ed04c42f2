-- Every byte is the checksum of the bytes A0 00 80 and one payload byte, so that every two checksums that differ are met: one test of each
-- byte, that a division run backwards gives that payload byte.
-- Assumes nothing.
use Rattle.std.proofs.Common.{◌≡◌, ℕ, zero, suc, ◌+◌, ◌/◌, ◌%◌, ◌<◌, Bool, cond, ◌&&◌, T, eqb, ltb, [], ◌∷◌, eqb→eq, ltb-true}
use lib.Bits.{bit_xor}
use Rattle.checksum.specs.Checksum.{shift_bit, remainder_byte, checksum_of}
use Rattle.checksum.proofs.Below.{T-left, T-right, T_true, below, at}

-- k bits of the division, backwards: where the low bit is 1 the polynomial was taken off, and bit 7 had moved out.
back_bits : ℕ → ℕ → ℕ
back_bits zero r = r
back_bits (suc k) r = back_bits k (cond (eqb (r % 2) 1) (bit_xor r 0x2F / 2 + 128) (r / 2))

-- The payload byte with which the checksum is c.
payload : ℕ → ℕ
payload c = bit_xor (checksum_of (160 ∷ 0 ∷ 128 ∷ [])) (back_bits 8 c)

right : ℕ → Bool
right c = ltb (payload c) 256 && eqb (checksum_of (160 ∷ 0 ∷ 128 ∷ payload c ∷ [])) c

right-all : T (below right 256)
unfolding right payload back_bits checksum_of remainder_byte shift_bit
right-all = tt

pub payload-for : (c : ℕ) → c < 256 → (x : ℕ) × (x < 256) × (checksum_of (160 ∷ 0 ∷ 128 ∷ x ∷ []) ≡ c)
unfolding right
payload-for c h =
    let t = at right 256 right-all c h in
    (payload c, ltb-true _ _ (T_true _ (T-left (ltb (payload c) 256) _ t)), eqb→eq _ _ (T-right (ltb (payload c) 256) _ t))
