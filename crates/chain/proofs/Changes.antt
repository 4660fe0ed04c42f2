-- What a command does to a lamp, by its number and the bytes of its payload.
-- Assumes nothing.
use mathlib.Core.Path.{◌≡◌, sym, ap, ◌∙◌}
use mathlib.Core.Logic.{◌≢◌, ◌⊎◌, inl, inr}
use mathlib.Core.Bool.{true, false, cond}
use mathlib.Core.List.{List}
use Prim.Native.Nat.{ℕ, ◌+◌, ◌*◌, ◌/◌, ◌%◌}
use native.Mathlib.Omega.{arith}
use lib.Dec.{eqb}
use borrow.Author.Tests.{ne_eqb}
use Rattle.table.specs.Table.{acknowledged, plain_number, size_right}
use Rattle.table.proofs.Table.{right-size}
use Rattle.table.proofs.Acknowledged.{plain-self, plain-plain, unacknowledged}
use Rattle.command.specs.Fields.{octets, word, pwm, layout_of, fields_by}
use Rattle.command.specs.Commands.{numbered}
use Rattle.rules.specs.declared.Defaults.{Defaults}
use Rattle.rules.specs.declared.Lamp.{Lamp}
use Rattle.rules.specs.Lamp.{changed_plain, changed, cleared, with_pwm}
use Rattle.chain.specs.Places.{words_at}
use Rattle.chain.specs.Helpers.{command_in}

-- The mode and the duty of a PWM word make it.
pwm-whole : (w : ℕ) → w / 32768 * 32768 + w % 32768 % 32768 ≡ w
pwm-whole w = omega arith

-- A number is neither a plain one nor its form with bit 5.
abbrev pub Neither : ℕ → ℕ → Type 0
Neither n k = (n ≡ k) ⊎ (n ≡ k + 0x20) → ⊥

-- The payload size that is right for a number which is one of two, a plain one and its acknowledged form.
pub either-size : {n k j x : ℕ} (i : ℕ) → (n ≡ k) ⊎ (n ≡ j) → size_right k ≡ (λ (y : ℕ). eqb y i) → size_right j ≡ (λ (y : ℕ). eqb y i)
    → size_right n x ≡ true → x ≡ i
either-size i (inl e) s t h = right-size i e s h
either-size i (inr e) s t h = right-size i e t h

module _ (d : Defaults) (p : List ℕ) (l : Lamp) where
  -- A number that is a key does what the key's command does.
  pub changed-key : {n k : ℕ} → n ≡ k → changed d (command_in k p) l ≡ changed d (command_in n p) l
  changed-key e = ap (λ (x : ℕ). changed d (command_in x p) l) (sym e)

  -- A command does what the command of its plain form's number does.
  changed-plain : (n : ℕ) → changed d (command_in (plain_number n) p) l ≡ changed d (command_in n p) l
  unfolding changed_plain layout_of
  changed-plain n =
      ap (λ (x : ℕ). changed_plain d (numbered x (fields_by (cond (eqb x 0x0D) word (cond (eqb x 0x4F) pwm octets)) p)) l) (plain-plain n)

  -- So a number that is a plain one or its acknowledged form does what the plain one does.
  pub changed-either : {n k j : ℕ} → (n ≡ k) ⊎ (n ≡ j) → plain_number j ≡ k → changed d (command_in k p) l ≡ changed d (command_in n p) l
  changed-either (inl e) q = changed-key e
  changed-either {n} {k} {j} (inr e) q =
      ap (λ (x : ℕ). changed d (command_in x p) l) (sym q) ∙ changed-plain j ∙ changed-key e

  -- SETPWM stores the three words as they are.
  pub changed-pwm : with_pwm (words_at p 0) l ≡ changed d (command_in 0x4F p) l
  unfolding changed_plain layout_of plain_number acknowledged
  changed-pwm = simp pwm-whole

  -- CLRERROR, READSTATUS and READTEMPST clear the flags.
  pub changed-cleared : {n : ℕ} → (n ≡ 0x01) ⊎ ((n ≡ 0x40) ⊎ (n ≡ 0x42)) → cleared l ≡ changed d (command_in n p) l
  unfolding changed_plain plain_number acknowledged
  changed-cleared (inl e) = changed-key e
  changed-cleared (inr (inl e)) = changed-key e
  changed-cleared (inr (inr e)) = changed-key e

  -- Any other number changes nothing. (What is known of it is what the `_` of `alter` knows.)
  pub changed-not : {n : ℕ}
      → ((((((((Unit {0} × n ≢ 0x00) × ((n ≡ 0x01) ⊎ ((n ≡ 0x40) ⊎ (n ≡ 0x42)) → ⊥)) × Neither n 0x04) × Neither n 0x05) × Neither n 0x06) × Neither n 0x0D) × Neither n 0x4B) × Neither n 0x4D) × Neither n 0x4F
      → l ≡ changed d (command_in n p) l
  unfolding changed_plain
  changed-not {n} h =
      let f = h.0.0.0.0.0.0.0.1 in
      let plain : acknowledged n ≡ false =
      unacknowledged n (((((((tt, (λ e. h.0.0.0.0.0.0.1 (inr e))), (λ e. h.0.0.0.0.0.1 (inr e))), (λ e. h.0.0.0.0.1 (inr e))), (λ e. h.0.0.0.1 (inr e))), (λ e. h.0.0.1 (inr e))), (λ e. h.0.1 (inr e))), (λ e. h.1 (inr e))) in
      simp (
        plain-self n plain,
        ne_eqb n 0x00 h.0.0.0.0.0.0.0.0.1,
        ne_eqb n 0x01 (λ e. f (inl e)),
        ne_eqb n 0x40 (λ e. f (inr (inl e))),
        ne_eqb n 0x42 (λ e. f (inr (inr e))),
        ne_eqb n 0x04 (λ e. h.0.0.0.0.0.0.1 (inl e)),
        ne_eqb n 0x05 (λ e. h.0.0.0.0.0.1 (inl e)),
        ne_eqb n 0x06 (λ e. h.0.0.0.0.1 (inl e)),
        ne_eqb n 0x0D (λ e. h.0.0.0.1 (inl e)),
        ne_eqb n 0x4B (λ e. h.0.0.1 (inl e)),
        ne_eqb n 0x4D (λ e. h.0.1 (inl e)),
        ne_eqb n 0x4F (λ e. h.1 (inl e)),
      )
