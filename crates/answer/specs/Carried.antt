-- Request 03, "Say which checksum", of the two dissectors. These are the statements; the proofs are in answer/proofs/Carrying.antt.
-- Assumes nothing.
use Rattle.std.specs.Prelude.{◌≡◌, List, ℕ}
use Rattle.telegram.specs.Numbers.{Reason, refused_for}
use Rattle.telegram.specs.Telegram.{reading}
use Rattle.telegram.specs.Carried.{Carried}
use Rattle.command.specs.Commands.{dissecting}
use Rattle.answer.specs.Answers.{dissecting_answer}

-- "Dissection passes both on": what the reader refuses, both dissectors refuse for the same reason.
unfoldable pub DissectorsPassOn : Type 0
DissectorsPassOn =
    (s : List ℕ) (e : Reason) → reading s ≡ refused_for e → (dissecting s ≡ refused_for e) × (dissecting_answer s ≡ refused_for e)

-- With 5 two checksums that differ, with any other number nothing.
unfoldable pub DissectorsCarry : Type 0
DissectorsCarry = (s : List ℕ) → Carried (dissecting s) × Carried (dissecting_answer s)
