-- The marked cases of document 01 hold of the written definitions: one statement, computed.
-- Assumes nothing.
use mathlib.Core.Path.{◌≡◌, refl}
use mathlib.Core.List.{map}
use Rattle.checksum.specs.Checksum.{shift_bit, remainder_byte, checksum_of}
use Rattle.telegram.specs.Telegram.{framing, reading}
use Rattle.table.specs.Casts.{destination}
use Rattle.table.specs.Table.{row_of, acknowledged, plain_number}
use Rattle.command.specs.Fields.{layout_of}
use Rattle.command.specs.Commands.{naming, dissecting}
use Rattle.answer.specs.Answers.{answer_layout_of, naming_answer, dissecting_answer}
use Rattle.answer.specs.Marked.{Case, marked}

pub as-marked : map (λ (c : Case). c.by c.bytes) marked ≡ map (λ (c : Case). c.gives) marked
unfolding marked shift_bit remainder_byte checksum_of framing reading destination layout_of answer_layout_of row_of acknowledged plain_number naming dissecting naming_answer dissecting_answer
as-marked = refl
