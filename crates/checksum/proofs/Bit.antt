-- One bit of the division by the value of bit 7, and what is left of eight bits.
-- Assumes nothing.
use Prim.Native.Nat.{ℕ, zero, suc, ◌≤◌, ◌<◌, ◌+◌, ◌-◌, ◌*◌, ◌/◌, ◌%◌}
use mathlib.Core.Path.{◌≡◌, sym, ap}
use native.Mathlib.Omega.{arith}
use lib.Bits.{bit_xor, xor_zero_r}
use Rattle.checksum.specs.Checksum.{shift_bit, shift_bits}

pub shift-low : (r : ℕ) → r < 128 → r * 2 ≡ shift_bit r
unfolding shift_bit
shift-low r h =
    let e₁ : r % 128 * 2 ≡ r * 2 = omega arith in
    let e₂ : r / 128 % 2 * 0x2F ≡ 0 = omega arith in
    sym (rw (e₁, e₂) (xor_zero_r (r * 2)))

pub shift-high : (r : ℕ) → 128 ≤ r → r < 256 → bit_xor ((r - 128) * 2) 0x2F ≡ shift_bit r
unfolding shift_bit
shift-high r h b =
    let e₁ : r % 128 * 2 ≡ (r - 128) * 2 = omega arith in
    let q : r / 128 ≡ 1 = omega arith in
    let e₂ : r / 128 % 2 * 0x2F ≡ 0x2F = ap (λ (n : ℕ). n % 2 * 0x2F) q in
    sym (rw (e₁, e₂))

pub shift-step : (x k : ℕ) → k < 8 → shift_bits (8 - (k + 1)) (shift_bit x) ≡ shift_bits (8 - k) x
shift-step x k h =
    let e : 8 - k ≡ suc (8 - (k + 1)) = omega arith in
    sym (ap (λ (n : ℕ). shift_bits n x) e)

pub shift-end : (x k : ℕ) → 8 ≤ k → shift_bits (8 - k) x ≡ x
shift-end x k h =
    let e : 8 - k ≡ zero = omega arith in
    ap (λ (n : ℕ). shift_bits n x) e
