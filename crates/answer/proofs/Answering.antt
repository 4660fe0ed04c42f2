-- The answer dissector: a law for each of its answers, and what is known of an answer that it accepts.
-- Callers cite these and do not unfold `naming_answer` and `dissecting_answer`.
-- Assumes nothing.
use mathlib.Core.Path.{◌≡◌}
use mathlib.Core.Bool.{true, false, not}
use mathlib.Core.List.{List}
use Prim.Native.Nat.{ℕ}
use lib.Dec.{eqb}
use borrow.Author.Tests.{eq-eqb, ne_eqb, eqb-true, not-false}
use Rattle.telegram.specs.Numbers.{Reason, refused_for, done}
use Rattle.telegram.specs.Telegram.{reading, payload_in}
use Rattle.telegram.specs.declared.Telegram.{Telegram}
use Rattle.telegram.proofs.Outcomes.{done-one, passed, went_on}
use Rattle.table.specs.Table.{row_of}
use Rattle.table.specs.declared.Row.{Row}
use Rattle.command.specs.Fields.{fields_by}
use Rattle.command.specs.Commands.{Message, numbered}
use Rattle.answer.specs.Answers.{answer_layout_of, Reply, answer_address, replying, naming_answer, dissecting_answer}

pub answer-done : (s : List ℕ) (t : Telegram) (r : Row) → row_of t.command ≡ done r → (r.answer ≡ 0 → ⊥)
    → answer_address t.command t.address.0 ≡ true → t.size ≡ r.answer
    → (m : Message) → m ≡ numbered t.command (fields_by (answer_layout_of t.command) (payload_in s t.size))
    → done (record { address = t.address.0; message = m }) ≡ naming_answer s t
unfolding naming_answer
answer-done s t r e z a f m h = simp (e, ne_eqb _ _ z, a, eq-eqb _ _ f, h)

-- What an accepted answer has behind the reader.
pub record Replied (s : List ℕ) (t : Telegram) (a : Reply) : Type 0 where
  pub row : Row
  pub known : row_of t.command ≡ done row
  pub some : eqb row.answer 0 ≡ false
  pub size : t.size ≡ row.answer
  pub reply : record { address = t.address.0; message = numbered t.command (fields_by (answer_layout_of t.command) (payload_in s t.size)) } ≡ a

pub replied : (s : List ℕ) (t : Telegram) (a : Reply) → naming_answer s t ≡ done a → Replied s t a
unfolding naming_answer
replied s t a e =
    let g = went_on (row_of t.command) (replying s t) e in
    let r : Row = g.0 in
    let p₁ = passed (eqb r.answer 0) 6 _ g.1.1 in
    let p₂ = passed (not (answer_address t.command t.address.0)) 7 _ p₁.1 in
    let p₃ = passed (not (eqb t.size r.answer)) 8 _ p₂.1 in
    record {
      row = r;
      known = g.1.0;
      some = p₁.0;
      size = eqb-true t.size r.answer (not-false _ p₃.0);
      reply = done-one p₃.1;
    }

module _ (s : List ℕ) where
  pub dissect-answer-refused : {d : Reason} → reading s ≡ refused_for d → refused_for d ≡ dissecting_answer s
  unfolding dissecting_answer
  dissect-answer-refused e = simp e

  pub dissect-answer-named : {t : Telegram} → reading s ≡ done t → naming_answer s t ≡ dissecting_answer s
  unfolding dissecting_answer
  dissect-answer-named e = simp e

  -- What the answer dissector accepts, the reader accepts.
  pub dissected-answer : {a : Reply} → dissecting_answer s ≡ done a → (t : Telegram) × ((reading s ≡ done t) × (naming_answer s t ≡ done a))
  unfolding dissecting_answer
  dissected-answer e = went_on (reading s) (naming_answer s) e
