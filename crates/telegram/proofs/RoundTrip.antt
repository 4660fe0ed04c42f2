-- What is built reads back, and what is read builds back: over the payload's size, and not size by size.
-- Assumes nothing.
use mathlib.Core.Path.{◌≡◌, refl, sym, ap, ◌∙◌, subst}
use mathlib.Core.Bool.{Bool, true, not, cond, ◌&&◌}
use mathlib.Core.List.{List, [], ◌∷◌, ◌++◌}
use Prim.Native.Nat.{ℕ, suc, ◌+◌, ◌*◌, ◌/◌, ◌%◌, ◌≤◌, ◌<◌}
use native.Mathlib.Omega.{arith}
use lib.Dec.{T, eqb, leb, leb→le, eqb→eq, T_not}
use borrow.Author.Tests.{ne_eqb, eqb-true}
use lib.ListN.{length, take, length-take}
use lib.Seq.{take_at, get_or_at, take-length, take-suc}
use Rattle.checksum.specs.Checksum.{checksum_of}
use Rattle.checksum.proofs.Below.{T-left, T-right, T_true, below, at}
use Rattle.telegram.specs.Numbers.{done}
use Rattle.telegram.specs.Telegram.{reading, building, telegram_of, unsealed, header, payload_in, address_in, index_in, command_in, telegram_in, size_of, index_of, listed, computed_in, received_in, checksum_right, Bytes}
use Rattle.telegram.specs.declared.Telegram.{Telegram}
use Rattle.telegram.proofs.Reading.{Framed, frame-done, framed, read_done, accepted}
use Rattle.telegram.proofs.Building.{Sendable, listed_le, telegram-length, build-done, built}

-- A listed length has an index up to 7, and not 5, which means that length: one test at each length up to 8.
length-good : ℕ → Bool
length-good n = cond (listed n) (leb (index_of n) 7 && (not (eqb (index_of n) 5) && eqb (size_of (index_of n)) n)) true

lengths-good : T (below length-good 9)
unfolding length-good
lengths-good = tt

record Sized (n : ℕ) : Type 0 where
  small : index_of n ≤ 7
  five : index_of n ≡ 5 → ⊥
  back : size_of (index_of n) ≡ n

sized : (n : ℕ) → listed n ≡ true → Sized n
unfolding length-good
sized n e =
    let b₁ = leb (index_of n) 7 in
    let b₂ = not (eqb (index_of n) 5) in
    let b₃ = eqb (size_of (index_of n)) n in
    let t : T (b₁ && (b₂ && b₃)) = rw e at (at length-good 9 lengths-good n (omega (arith, listed_le n e))) in
    let t₂ : T (b₂ && b₃) = T-right b₁ (b₂ && b₃) t in
    record {
      small = leb→le (index_of n) 7 (T-left b₁ (b₂ && b₃) t);
      five = (λ q. T_not (eqb (index_of n) 5) (T-left b₂ b₃ t₂) (subst (λ (k : ℕ). T (eqb k 5)) (sym q) tt));
      back = eqb→eq (size_of (index_of n)) n (T-right b₂ b₃ t₂);
    }

-- An index up to 7 other than 5 means a listed length, whose index it is: one test at each index.
index-good : ℕ → Bool
index-good i = cond (eqb i 5) true (listed (size_of i) && eqb (index_of (size_of i)) i)

indexes-good : T (below index-good 8)
unfolding index-good
indexes-good = tt

record Indexed (i : ℕ) : Type 0 where
  size : listed (size_of i) ≡ true
  again : index_of (size_of i) ≡ i

indexed : (i : ℕ) → i < 8 → (i ≡ 5 → ⊥) → Indexed i
unfolding index-good
indexed i h n =
    let b₁ = listed (size_of i) in
    let b₂ = eqb (index_of (size_of i)) i in
    let t : T (b₁ && b₂) = rw (ne_eqb i 5 n) at (at index-good 8 indexes-good i h) in
    record {
      size = T_true b₁ (T-left b₁ b₂ t);
      again = eqb→eq (index_of (size_of i)) i (T-right b₁ b₂ t);
    }

-- The telegram of fields that can be sent reads back to them, and its payload comes back.
telegram-reads : (a c : ℕ) (p : List ℕ) → Sendable a c p
    → (reading (telegram_of a c p) ≡ done (record { address = record { 0 = a }; command = c; size = length p }))
    × (payload_in (telegram_of a c p) (length p) ≡ p)
unfolding telegram_of unsealed
telegram-reads a c p v =
    let n = length p in
    let i = index_of n in
    let z = sized n v.size in
    let b : List ℕ = unsealed a c p in
    let s : List ℕ = telegram_of a c p in
    let lb : length b ≡ 3 + n = omega arith in
    let ls : length s ≡ 4 + n = telegram-length a c p in
    let hi : i ≤ 7 = z.small in
    let ha : a ≤ 1023 = v.address in
    let hc : c ≤ 127 = v.command in
    let ei : index_in s ≡ i = omega arith in
    let es : size_of (index_in s) ≡ n = ap size_of ei ∙ z.back in
    let e₁ : (160 + a / 64) % 16 ≡ a / 64 = omega arith in
    let e₂ : (a % 64 * 4 + i / 2) / 4 ≡ a % 64 = omega arith in
    let ea : address_in s ≡ a = omega arith in
    let ec : command_in s ≡ c = omega arith in
    let t : Telegram = record { address = record { 0 = a }; command = c; size = n } in
    let et : telegram_in s ≡ t = cc in
    let right : computed_in s n ≡ received_in s n =
    ap checksum_of (take_at b (checksum_of b ∷ []) (3 + n) lb) ∙ sym (get_or_at b (checksum_of b) [] 0 (3 + n) lb) in (
      sym
          (read_done s t
          (sym (frame-done s (omega arith) (omega arith) (λ q. z.five (sym ei ∙ q)) (omega arith)) ∙ ap done et)
          refl refl right),
      take_at p (checksum_of b ∷ []) n refl,
    )

-- What is built reads back to the same address, command and payload.
pub built-reads : (a c : ℕ) (p : List ℕ) (room : ℕ) (s : List ℕ) → building a c p room ≡ done s
    → (reading s ≡ done (record { address = record { 0 = a }; command = c; size = length p })) × (payload_in s (length p) ≡ p)
built-reads a c p room s e =
    let q = built a c p room e in
    let r = telegram-reads a c p q.0 in
    (sym (ap reading q.1) ∙ r.0, sym (ap (λ (l : List ℕ). payload_in l (length p)) q.1) ∙ r.1)

short : {n : ℕ} → 4 ≤ n → n < 4 → ⊥
short h k = omega arith

-- The bytes before the checksum, from the fields that they hold.
header-back : (a c i : ℕ) (p : List ℕ) {b₀ b₁ b₂ : ℕ} → index_of (length p) ≡ i → 160 + a / 64 ≡ b₀ → a % 64 * 4 + i / 2 ≡ b₁
    → i % 2 * 128 + c ≡ b₂ → unsealed a c p ≡ b₀ ∷ b₁ ∷ b₂ ∷ p
unfolding unsealed
header-back a c i p ei e₀ e₁ e₂ = ap (λ (k : ℕ). header a k c ++ p) ei ∙ (cc)

sealed-back : (a c : ℕ) (p : List ℕ) {l : List ℕ} → unsealed a c p ≡ l → telegram_of a c p ≡ l ++ (checksum_of l ∷ [])
unfolding telegram_of
sealed-back a c p e = ap (λ (l : List ℕ). l ++ (checksum_of l ∷ [])) e

-- The fields of an accepted telegram can be sent, and make the same bytes.
fields_back : (s : List ℕ) → Bytes s → Framed s (telegram_in s) → checksum_right s (size_of (index_in s)) ≡ true
    → Sendable (address_in s) (command_in s) (payload_in s (size_of (index_in s)))
    × (telegram_of (address_in s) (command_in s) (payload_in s (size_of (index_in s))) ≡ s)
fields_back [] y g r = absurd (short g.enough (omega arith))
fields_back (b₀ ∷ []) y g r = absurd (short g.enough (omega arith))
fields_back (b₀ ∷ b₁ ∷ []) y g r = absurd (short g.enough (omega arith))
fields_back (b₀ ∷ b₁ ∷ b₂ ∷ l) y g r =
    let s : List ℕ = b₀ ∷ b₁ ∷ b₂ ∷ l in
    let h₁ : b₁ < 256 = y 1 in
    let h₂ : b₂ < 256 = y 2 in
    let h₀ : b₀ / 16 ≡ 10 = g.preamble in
    let i = index_in s in
    let n = size_of i in
    let x = indexed i (omega arith) g.index in
    let ll : length l ≡ 1 + n = omega (arith, g.count) in
    let p : List ℕ = payload_in s n in
    let lp : length p ≡ n = length-take n l ∙ omega arith in
    let ei : index_of (length p) ≡ i = ap index_of lp ∙ x.again in
    let f₁ : address_in s / 64 ≡ b₀ % 16 = omega arith in
    let f₂ : address_in s % 64 ≡ b₁ / 4 = omega arith in
    let f₃ : i / 2 ≡ b₁ % 4 = omega arith in
    let f₄ : i % 2 ≡ b₂ / 128 = omega arith in
    let e₀ : 160 + address_in s / 64 ≡ b₀ = omega arith in
    let e₁ : address_in s % 64 * 4 + i / 2 ≡ b₁ = omega arith in
    let e₂ : i % 2 * 128 + command_in s ≡ b₂ = omega arith in
    let m : 3 + n ≡ suc (suc (suc n)) = omega arith in
    let m₂ : suc (3 + n) ≡ length s = omega arith in
    let m₃ : 3 + n < length s = omega arith in
    let eb : unsealed (address_in s) (command_in s) p ≡ take (3 + n) s =
    header-back (address_in s) (command_in s) i p ei e₀ e₁ e₂ ∙ sym (ap (λ (k : ℕ). take k s) m) in (
      record { address = omega arith; command = omega arith; size = ap listed lp ∙ x.size },
      sealed-back (address_in s) (command_in s) p eb ∙ ap (λ (x : ℕ). take (3 + n) s ++ (x ∷ [])) (eqb-true _ _ r)
          ∙ sym (take-suc s (3 + n) 0 m₃) ∙ ap (λ (k : ℕ). take k s) m₂ ∙ take-length s,
    )

-- What is read builds back to the same bytes, in every room that is long enough for them.
pub read-builds : (s : List ℕ) (t : Telegram) → Bytes s → reading s ≡ done t → (room : ℕ) → length s ≤ room
    → building t.address.0 t.command (payload_in s t.size) room ≡ done s
read-builds s t y e room h =
    let q = accepted s t e in
    let g = framed s t q.0 in
    subst (λ (u : Telegram). building u.address.0 u.command (payload_in s u.size) room ≡ done s) g.fields
    (let b = fields_back s y (subst (λ (u : Telegram). Framed s u) (sym g.fields) g)
    (subst (λ (u : Telegram). checksum_right s u.size ≡ true) (sym g.fields) q.1) in
    let p = payload_in s (size_of (index_in s)) in
    let k : 4 + length p ≤ room = omega (arith, sym (ap length b.1) ∙ telegram-length (address_in s) (command_in s) p) in
    build-done (address_in s) (command_in s) p room b.0 k ∙ ap done b.1)
