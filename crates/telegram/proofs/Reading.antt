-- The reader: a law for each of its answers, from the facts that the tests show, and what is known of an accepted telegram.
-- Callers cite these and do not unfold `framing` and `reading`.
-- Assumes nothing.
use mathlib.Core.Path.{◌≡◌, refl, sym, ap, ◌∙◌, subst}
use mathlib.Core.Bool.{Bool, true, false, cond}
use mathlib.Core.List.{List}
use mathlib.Core.Logic.{◌≢◌}
use Prim.Native.Nat.{ℕ, ◌+◌, ◌<◌, ◌≤◌}
use native.Mathlib.Omega.{arith}
use borrow.Author.Tests.{lt-ltb, le-ltb, eq-eqb, ne_eqb, ltb-false, eqb-true, eqb-false, not-false}
use lib.Dec.{eqb}
use lib.ListN.{length}
use Rattle.std.specs.Prelude.{Result, Err}
use Rattle.telegram.specs.Numbers.{Reason, refused_for, refused, done, wrong_checksum, reason_of, outcome_of}
use Rattle.telegram.specs.Telegram.{preamble_in, index_in, size_of, telegram_in, framing, reading, refusal_in, checking, computed_in, received_in, checksum_right, Bytes}
use Rattle.telegram.specs.declared.Telegram.{Telegram}
use Rattle.telegram.specs.declared.Refusal.{Refusal}
use Rattle.telegram.proofs.Outcomes.{never, done-one, refused-one, passed, passed-for, went_on}

pub frame-short : (s : List ℕ) → length s < 4 → refused 1 ≡ framing s
unfolding framing
frame-short s h = simp (lt-ltb _ _ h)

module _ (s : List ℕ) (h₁ : 4 ≤ length s) where
  pub frame-preamble : (preamble_in s ≡ 10 → ⊥) → refused 2 ≡ framing s
  unfolding framing
  frame-preamble h = simp (le-ltb _ _ h₁, ne_eqb _ _ h)

  module _ (h₂ : preamble_in s ≡ 10) where
    pub frame-index : index_in s ≡ 5 → refused 3 ≡ framing s
    unfolding framing
    frame-index h = simp (le-ltb _ _ h₁, eq-eqb _ _ h₂, eq-eqb _ _ h)

    module _ (h₃ : index_in s ≡ 5 → ⊥) where
      pub frame-count : (length s ≡ 4 + size_of (index_in s) → ⊥) → refused 4 ≡ framing s
      unfolding framing
      frame-count h = simp (le-ltb _ _ h₁, eq-eqb _ _ h₂, ne_eqb _ _ h₃, ne_eqb _ _ h)

      pub frame-done : length s ≡ 4 + size_of (index_in s) → done (telegram_in s) ≡ framing s
      unfolding framing
      frame-done h = simp (le-ltb _ _ h₁, eq-eqb _ _ h₂, ne_eqb _ _ h₃, eq-eqb _ _ h)

-- What a frame has that passed the tests 1 to 4.
pub record Framed (s : List ℕ) (t : Telegram) : Type 0 where
  pub enough : 4 ≤ length s
  pub preamble : preamble_in s ≡ 10
  pub index : index_in s ≡ 5 → ⊥
  pub count : length s ≡ 4 + t.size
  pub fields : telegram_in s ≡ t

pub framed : (s : List ℕ) (t : Telegram) → framing s ≡ done t → Framed s t
unfolding framing
framed s t e =
    let p₁ = passed _ _ _ e in
    let p₂ = passed _ _ _ p₁.1 in
    let p₃ = passed _ _ _ p₂.1 in
    let p₄ = passed _ _ _ p₃.1 in
    let q : telegram_in s ≡ t = done-one p₄.1 in
    record {
      enough = ltb-false _ _ p₁.0;
      preamble = eqb-true _ _ (not-false _ p₂.0);
      index = eqb-false _ _ p₃.0;
      count = eqb-true _ _ (not-false _ p₄.0) ∙ ap (λ (u : Telegram). 4 + u.size) q;
      fields = q;
    }

module _ (s : List ℕ) where
  pub read-framed : {d : Reason} → framing s ≡ refused_for d → refused_for d ≡ reading s
  unfolding reading
  read-framed e = simp e

  -- Of a frame the two checksums decide.
  module _ (t : Telegram) (f : framing s ≡ done t) {c r : ℕ} (ec : c ≡ computed_in s t.size) (er : r ≡ received_in s t.size) where
    pub read-checksum : (c ≡ r → ⊥) → refused_for (wrong_checksum c r) ≡ reading s
    unfolding reading
    read-checksum h = simp (f, ← ec, ← er, ne_eqb c r h)

    pub read_done : c ≡ r → done t ≡ reading s
    unfolding reading
    read_done h = simp (f, ← ec, ← er, eq-eqb c r h)

-- What a frame has that is refused: two checksums that differ, and the refusal carries them.
pub read-differs : (s : List ℕ) (t : Telegram) {d : Reason} → framing s ≡ done t → reading s ≡ refused_for d
    → (computed_in s t.size ≢ received_in s t.size) × (d ≡ wrong_checksum (computed_in s t.size) (received_in s t.size))
read-differs s t {d} f e = go (checksum_right s t.size) refl
  where
    go : (b : Bool) → checksum_right s t.size ≡ b
        → (computed_in s t.size ≢ received_in s t.size) × (d ≡ wrong_checksum (computed_in s t.size) (received_in s t.size))
    go true q = absurd (never (sym e ∙ sym (read_done s t f refl refl (eqb-true _ _ q))))
    go false q = (eqb-false _ _ q, refused-one (sym e ∙ sym (read-checksum s t f refl refl (eqb-false _ _ q))))

-- What an accepted telegram has: its frame, and the right checksum.
pub accepted : (s : List ℕ) (t : Telegram) → reading s ≡ done t → (framing s ≡ done t) × (checksum_right s t.size ≡ true)
unfolding reading
accepted s t e =
    let g = went_on (framing s) (checking s) e in
    let p = passed-for _ _ _ g.1.1 in
    let q : g.0 ≡ t = done-one p.1 in
    (g.1.0 ∙ ap done q, subst (λ (u : Telegram). checksum_right s u.size ≡ true) q (not-false _ p.0))

-- An accepted telegram has four bytes more than its payload.
pub accepted-count : (s : List ℕ) (t : Telegram) → reading s ≡ done t → length s ≡ 4 + t.size
accepted-count s t e = (framed s t (accepted s t e).0).count

size-le : (b : Bool) (i : ℕ) → eqb i 7 ≡ b → i < 8 → cond b 8 i ≤ 8
size-le true i e h = omega arith
size-le false i e h = omega arith

-- The payload of an accepted telegram has at most 8 bytes.
pub accepted-size : (s : List ℕ) (t : Telegram) → Bytes s → reading s ≡ done t → t.size ≤ 8
accepted-size s t y e =
    subst (λ (u : Telegram). u.size ≤ 8) (framed s t (accepted s t e).0).fields
    (size-le (eqb (index_in s) 7) (index_in s) refl (omega (arith, y 1, y 2)))

-- Where the reader's answer is a refusal, what `refusal_of` gives of it has the reason of the outcome.
pub refusal_is : (s : List ℕ) (r : Result Telegram Refusal) {e x : Refusal} → outcome_of r ≡ reading s → r ≡ Err e → x ≡ refusal_in r
    → reading s ≡ refused_for (reason_of x)
refusal_is s r a k q = sym a ∙ ap outcome_of k ∙ sym (ap (λ (y : Refusal). refused_for (reason_of y)) (q ∙ ap refusal_in k))
