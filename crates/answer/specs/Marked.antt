-- Document 01, "Telegrams at the edges": the cases marked *, as one table.
-- Assumes nothing.
use Rattle.std.specs.Prelude.{ℕ, List, [], ◌∷◌}
use Rattle.telegram.specs.Numbers.{Outcome, refused_for, done}
use Rattle.telegram.specs.Telegram.{reading, payload_in}
use Rattle.telegram.specs.declared.Telegram.{Telegram}
use Rattle.table.specs.Casts.{cast_kind, cast_value}
use Rattle.command.specs.Commands.{Sent, dissecting}
use Rattle.answer.specs.Answers.{Reply, dissecting_answer}

-- An outcome as numbers: the number given back, with what a refusal carries, or where it is 0 the values.
abbrev pub given : {A : Type 0} → (A → List ℕ) → Outcome A → List ℕ
given values (refused_for e) = e.number ∷ e.carries
given values (done a) = 0 ∷ values a

-- The telegram reader: address, command, payload.
abbrev pub read : List ℕ → List ℕ
read s = given (λ (t : Telegram). t.address.0 ∷ t.command ∷ payload_in s t.size) (reading s)

-- The command dissector: command, cast in two numbers, fields.
abbrev pub dissect : List ℕ → List ℕ
dissect s = given (λ (m : Sent). m.message.number ∷ cast_kind m.cast ∷ cast_value m.cast ∷ m.message.fields) (dissecting s)

-- The answer dissector: the answering lamp's address, command, fields.
abbrev pub answer : List ℕ → List ℕ
answer s = given (λ (a : Reply). a.address ∷ a.message.number ∷ a.message.fields) (dissecting_answer s)

-- A marked case: by which of the three it is taken apart, its bytes, and what that gives.
pub record Case : Type 0 where
  pub by : List ℕ → List ℕ
  pub bytes : List ℕ
  pub gives : List ℕ

-- A row of the table.
abbrev pub case : (List ℕ → List ℕ) → List ℕ → List ℕ → Case
case by bytes gives = record { by = by; bytes = bytes; gives = gives }

-- The marked cases in the order of the page.
unfoldable pub marked : List Case
marked =
    case dissect (0xA0 ∷ 0x00 ∷ 0x00 ∷ 0x22 ∷ []) (0 ∷ 0x00 ∷ 0 ∷ 0 ∷ [])
    ∷ case dissect (0xA0 ∷ 0x00 ∷ 0x01 ∷ 0x0D ∷ []) (0 ∷ 0x01 ∷ 0 ∷ 0 ∷ [])
    ∷ case dissect (0xA0 ∷ 0x00 ∷ 0x05 ∷ 0xB1 ∷ []) (0 ∷ 0x05 ∷ 0 ∷ 0 ∷ [])
    ∷ case dissect (0xA0 ∷ 0x04 ∷ 0x02 ∷ 0xA9 ∷ []) (0 ∷ 0x02 ∷ 1 ∷ 0x001 ∷ [])
    ∷ case answer (0xA0 ∷ 0x15 ∷ 0x02 ∷ 0x6F ∷ 0x50 ∷ 0x30 ∷ []) (0 ∷ 0x005 ∷ 0x02 ∷ 0x6F ∷ 0x50 ∷ [])
    ∷ case answer (0xA0 ∷ 0x25 ∷ 0x02 ∷ 0x6B ∷ 0x50 ∷ 0x7F ∷ []) (0 ∷ 0x009 ∷ 0x02 ∷ 0x6B ∷ 0x50 ∷ [])
    ∷ case read (0xA0 ∷ 0x00 ∷ 0x00 ∷ 0x23 ∷ []) (5 ∷ 0x22 ∷ 0x23 ∷ [])
    ∷ case read (0xA0 ∷ 0x00 ∷ 0x00 ∷ []) (1 ∷ [])
    ∷ case read (0xB0 ∷ 0x00 ∷ 0x00 ∷ 0x22 ∷ []) (2 ∷ [])
    ∷ case read (0xA0 ∷ 0x02 ∷ 0x80 ∷ 0x00 ∷ []) (3 ∷ [])
    ∷ case read (0xA0 ∷ 0x00 ∷ 0x00 ∷ 0x22 ∷ 0x00 ∷ []) (4 ∷ [])
    ∷ case read [] (1 ∷ [])
    ∷ case read (0xA0 ∷ 0x07 ∷ 0xCF ∷ 0x00 ∷ 0xFF ∷ 0x00 ∷ 0x00 ∷ 0x11 ∷ 0x11 ∷ 0x00 ∷ 0x00 ∷ 0x49 ∷ [])
    (0 ∷ 0x001 ∷ 0x4F ∷ 0x00 ∷ 0xFF ∷ 0x00 ∷ 0x00 ∷ 0x11 ∷ 0x11 ∷ 0x00 ∷ 0x00 ∷ [])
    ∷ case dissect (0xA0 ∷ 0x07 ∷ 0xCF ∷ 0x00 ∷ 0xFF ∷ 0x00 ∷ 0x00 ∷ 0x11 ∷ 0x11 ∷ 0x00 ∷ 0x00 ∷ 0x49 ∷ []) (8 ∷ [])
    ∷ []
