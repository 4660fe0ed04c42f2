-- Document 01, "The bytes of a telegram", on the checksum: the eight-bit remainder over all bytes before it,
-- polynomial hex 2F (x^8 + x^5 + x^3 + x^2 + x + 1), start 0, high bit first, nothing added at the end.
-- Assumes nothing.
use Rattle.std.specs.Prelude.{List, [], ◌∷◌, ℕ, zero, suc, ◌*◌, ◌/◌, ◌%◌}
use Rattle.std.specs.Int.Bits.{bit_xor}

-- One bit of the division: the low seven bits move up by one; where bit 7, which moves out, is 1, the polynomial is taken off.
unfoldable pub shift_bit : ℕ → ℕ
shift_bit r = bit_xor (r % 128 * 2) (r / 128 % 2 * 0x2F)

-- k bits of the division.
abbrev pub shift_bits : ℕ → ℕ → ℕ
shift_bits zero r = r
shift_bits (suc k) r = shift_bits k (shift_bit r)

-- The remainder r carried over the byte b, high bit first.
unfoldable pub remainder_byte : ℕ → ℕ → ℕ
remainder_byte r b = shift_bits 8 (bit_xor r b)

-- The remainder r carried over a list of bytes.
abbrev pub remainder_from : ℕ → List ℕ → ℕ
remainder_from r [] = r
remainder_from r (b ∷ s) = remainder_from (remainder_byte r b) s

-- The checksum of a list of bytes: the start is 0.
unfoldable pub checksum_of : List ℕ → ℕ
checksum_of s = remainder_from 0 s
