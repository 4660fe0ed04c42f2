-- The outcomes of the two dissectors can be answered with: they pass the reader's refusal on whole, and nothing else carries anything.
-- Assumes nothing.
use mathlib.Core.Path.{refl, sym}
use mathlib.Core.Bool.{not}
use mathlib.Core.List.{List}
use Prim.Native.Nat.{ℕ}
use native.Mathlib.Omega.{arith}
use lib.Dec.{eqb}
use Rattle.telegram.specs.Telegram.{reading}
use Rattle.telegram.specs.declared.Telegram.{Telegram}
use Rattle.telegram.specs.declared.Refusal.TheVariants.{UnknownCommand, CastNotAllowed, PayloadSize}
use Rattle.telegram.proofs.Carrying.{Answerable, well, refusing, going_on, answerable-carries, reading-answerable}
use Rattle.table.specs.Table.{row_of}
use Rattle.command.specs.Commands.{dissecting}
use Rattle.command.proofs.Naming.{dissect-refused}
use Rattle.command.proofs.Carrying.{row-answerable, dissecting-answerable}
use Rattle.answer.specs.Answers.{answer_address, naming_answer, dissecting_answer}
use Rattle.answer.specs.Carried.{DissectorsPassOn, DissectorsCarry}
use Rattle.answer.proofs.Answering.{dissect-answer-refused}

naming-answerable : (s : List ℕ) (t : Telegram) → Answerable (naming_answer s t)
unfolding naming_answer
naming-answerable s t =
    going_on (row_of t.command) (row-answerable t.command)
    (λ r. refusing (eqb r.answer 0) UnknownCommand (omega arith)
    (refusing (not (answer_address t.command t.address.0)) CastNotAllowed (omega arith)
    (refusing (not (eqb t.size r.answer)) PayloadSize (omega arith) (well _ refl))))

pub replying-answerable : (s : List ℕ) → Answerable (dissecting_answer s)
unfolding dissecting_answer
replying-answerable s = going_on (reading s) (reading-answerable s) (naming-answerable s)

pub dissectors-carry : DissectorsCarry
unfolding DissectorsCarry
dissectors-carry s = (
  answerable-carries (dissecting s) (dissecting-answerable s),
  answerable-carries (dissecting_answer s) (replying-answerable s),
)

pub dissectors-pass-on : DissectorsPassOn
unfolding DissectorsPassOn
dissectors-pass-on s e h = (sym (dissect-refused s h), sym (dissect-answer-refused s h))
