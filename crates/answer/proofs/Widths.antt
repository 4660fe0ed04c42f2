-- How many bytes answers have: those of the table are as many as the layout wants, and none has more than 8.
-- Assumes nothing.
use mathlib.Core.Path.{◌≡◌, ◌∙◌, refl, ap}
use mathlib.Core.Bool.{Bool, true, false}
use mathlib.Core.List.{List}
use Prim.Native.Nat.{ℕ, ◌≤◌}
use lib.Dec.{eqb, lit≤}
use lib.ListN.{length}
use borrow.Author.Tests.{eq-eqb}
use Rattle.telegram.specs.Numbers.{Outcome, refused_for, done}
use Rattle.table.specs.Table.{row_of, acknowledged, answer_size_of}
use Rattle.command.specs.Fields.{octets}
use Rattle.answer.specs.Answers.{acknowledged_number, answer_message_of, answer_layout_of, answer_payload_of}
use Rattle.answer.specs.declared.Acknowledged.{Acknowledged}
use Rattle.answer.specs.declared.Acknowledged.TheVariants.{GoSleep, GoActive, GoDeepSleep, SetMult, SetThresholds, SetSetup, SetPwm}
use Rattle.answer.specs.declared.Answer.{Answer}
use Rattle.answer.specs.declared.Answer.TheVariants.{InitBidir, InitLoop, Identity, Mask, Status, TempStatus, Temp, Thresholds, Setup, Words, Acknowledgement}
use Rattle.table.proofs.Acknowledged.{by-acknowledged}
use Rattle.command.proofs.Layouts.{Wide, as_wide, wide}

-- The table has this many bytes for an answer.
has : Outcome ℕ → ℕ → Bool
has (refused_for d) k = false
has (done x) k = eqb k x

pub answer-wide : (n : ℕ) → n ≤ 127 → (p : List ℕ) → length p ≤ 8 → answer_size_of n ≡ done (length p) → Wide (answer_layout_of n) p
unfolding has as_wide answer_layout_of row_of
answer-wide n h p l e =
    wide answer_layout_of (λ (m k : ℕ). has (answer_size_of m) k) tt n h p l
    (ap (λ (o : Outcome ℕ). has o (length p)) e ∙ eq-eqb (length p) (length p) refl)

-- Each byte of an answer to an acknowledged command is a field by itself ..
pub acknowledged-octets : (n : ℕ) → acknowledged n ≡ true → octets ≡ answer_layout_of n
unfolding answer_layout_of
acknowledged-octets = by-acknowledged (λ (n : ℕ). octets ≡ answer_layout_of n) refl refl refl refl refl refl refl

-- .. and each name of such a command has an acknowledged number.
pub named-acknowledged : (c : Acknowledged) → acknowledged (acknowledged_number c) ≡ true
unfolding acknowledged
named-acknowledged GoSleep = refl
named-acknowledged GoActive = refl
named-acknowledged GoDeepSleep = refl
named-acknowledged SetMult = refl
named-acknowledged SetThresholds = refl
named-acknowledged SetSetup = refl
named-acknowledged SetPwm = refl

-- No answer is longer than 8 bytes.
pub answer-short : (a : Answer) → length (answer_payload_of (answer_message_of a)) ≤ 8
unfolding answer_layout_of
answer-short (InitBidir t x) = lit≤ tt
answer-short (InitLoop t x) = lit≤ tt
answer-short (Identity x) = lit≤ tt
answer-short (Mask x) = lit≤ tt
answer-short (Status x) = lit≤ tt
answer-short (TempStatus t x) = lit≤ tt
answer-short (Temp t) = lit≤ tt
answer-short (Thresholds x y z) = lit≤ tt
answer-short (Setup x) = lit≤ tt
answer-short (Words r g b) = lit≤ tt
answer-short (Acknowledgement c t x) = rw (← acknowledged-octets (acknowledged_number c) (named-acknowledged c)) (lit≤ tt)
