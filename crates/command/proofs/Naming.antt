-- The command dissector: a law for each of its answers, and what is known of a telegram that it accepts.
-- Callers cite these and do not unfold `naming` and `dissecting`.
-- Assumes nothing.
use mathlib.Core.Path.{◌≡◌, sym, ap, ◌∙◌, subst}
use mathlib.Core.Bool.{true, not}
use mathlib.Core.List.{List}
use Rattle.std.specs.Prelude.{Ok}
use Prim.Native.Nat.{ℕ, ◌+◌, ◌-◌, ◌≤◌}
use native.Mathlib.Nat.{add-sub_cancel_left}
use lib.ListN.{length, take, drop}
use borrow.Author.Tests.{not-false}
use Rattle.telegram.specs.Numbers.{Reason, refused_for, refused, done, after}
use Rattle.telegram.specs.Telegram.{reading, payload_in}
use Rattle.telegram.specs.declared.Telegram.{Telegram}
use Rattle.telegram.proofs.Outcomes.{done-one, passed, went_on}
use Rattle.table.specs.Casts.{destination}
use Rattle.table.specs.Table.{row_of, cast_listed, payload_fits, size_right}
use Rattle.table.specs.declared.Row.{Row}
use Rattle.table.specs.declared.Cast.{Cast}
use Rattle.command.specs.Fields.{layout_of, fields_by}
use Rattle.command.specs.Commands.{Message, numbered, Sent, composing, heading_as, fitting, naming, dissecting}
use Rattle.table.proofs.Table.{part_right}

pub name_done : (s : List ℕ) (t : Telegram) (r : Row) → row_of t.command ≡ done r → (k : Cast) → destination t.address.0 ≡ done k
    → cast_listed r.casts k ≡ true → payload_fits r t.size ≡ true
    → (m : Message) → m ≡ numbered t.command (fields_by (layout_of t.command) (payload_in s t.size))
    → done (record { message = m; cast = k }) ≡ naming s t
unfolding naming
name_done s t r e k d l f m h = simp (e, d, l, f, h)

-- What an accepted telegram has behind the reader: a row and a destination that fit it, and the message in its bytes.
pub record Named (s : List ℕ) (t : Telegram) (m : Sent) : Type 0 where
  pub row : Row
  pub known : row_of t.command ≡ done row
  pub to : destination t.address.0 ≡ done m.cast
  pub listed : cast_listed row.casts m.cast ≡ true
  pub fits : payload_fits row t.size ≡ true
  pub message : m.message ≡ numbered t.command (fields_by (layout_of t.command) (payload_in s t.size))

pub named : (s : List ℕ) (t : Telegram) (m : Sent) → naming s t ≡ done m → Named s t m
unfolding naming
named s t m e =
    let g = went_on (row_of t.command) (λ (r : Row). after (destination t.address.0) (fitting s t r)) e in
    let r : Row = g.0 in
    let d = went_on (destination t.address.0) (fitting s t r) g.1.1 in
    let k : Cast = d.0 in
    let p₁ = passed (not (cast_listed r.casts k)) 7 _ d.1.1 in
    let p₂ = passed (not (payload_fits r t.size)) 8 _ p₁.1 in
    let q = done-one p₂.1 in
    let qk : k ≡ m.cast = ap (λ (x : Sent). x.cast) q in
    record {
      row = r;
      known = g.1.0;
      to = d.1.0 ∙ ap done qk;
      listed = subst (λ (x : Cast). cast_listed r.casts x ≡ true) qk (not-false _ p₁.0);
      fits = not-false _ p₂.0;
      message = sym (ap (λ (x : Sent). x.message) q);
    }

-- The part of a telegram's bytes that is the payload of what its heading names.
module _ (s : List ℕ) (t : Telegram) (cast : Cast) (e : heading_as s t (Ok cast) ≡ naming s t) (h : 3 + t.size ≤ length s) where
  pub headed-size : size_right t.command (length (take (3 + t.size - 3) (drop 3 s))) ≡ true
  headed-size =
      let n = named s t _ (sym e) in
      part_right t.command n.row s t.size n.known n.fits h

  pub headed-message : {m : Message} → m ≡ numbered t.command (fields_by (layout_of t.command) (take (3 + t.size - 3) (drop 3 s)))
      → done (record { message = m; cast = cast }) ≡ naming s t
  headed-message f =
      ap (λ (x : Message). done (record { message = x; cast = cast }))
      (f ∙ ap (λ (k : ℕ). numbered t.command (fields_by (layout_of t.command) (payload_in s k))) (add-sub_cancel_left 3 t.size))
      ∙ e

module _ (s : List ℕ) where
  pub dissect-refused : {d : Reason} → reading s ≡ refused_for d → refused_for d ≡ dissecting s
  unfolding dissecting
  dissect-refused e = simp e

  pub dissect-named : {t : Telegram} → reading s ≡ done t → naming s t ≡ dissecting s
  unfolding dissecting
  dissect-named e = simp e

  -- What the dissector accepts, the reader accepts.
  pub dissected : {m : Sent} → dissecting s ≡ done m → (t : Telegram) × ((reading s ≡ done t) × (naming s t ≡ done m))
  unfolding dissecting
  dissected e = went_on (reading s) (naming s) e

pub compose-unknown : (n : ℕ) (p : List ℕ) {k : ℕ} → row_of n ≡ refused k → refused k ≡ composing n p
unfolding composing
compose-unknown n p e = simp e
