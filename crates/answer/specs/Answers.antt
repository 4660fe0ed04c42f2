-- Document 01, "Commands", on answers: their values and layouts, and what the answer dissector gives. Document 02, request 02: answers
-- to acknowledged commands.
-- Assumes nothing.
use Rattle.std.specs.Prelude.{ℕ, Bool, cond, not, ◌||◌, Result, Ok, Err, List, [], ◌∷◌, eqb, leb}
use Rattle.telegram.specs.Numbers.{Outcome, refused_for, done, refuse, after, reason_of}
use Rattle.telegram.specs.Telegram.{reading, payload_in}
use Rattle.telegram.specs.declared.Refusal.{Refusal}
use Rattle.telegram.specs.declared.Telegram.{Telegram}
use Rattle.table.specs.Table.{row_of}
use Rattle.table.specs.declared.Row.{Row}
use Rattle.command.specs.Fields.{Layout, octets, word, long, pwm, fields_by, payload_by, pwm_fields}
use Rattle.command.specs.Commands.{Message, numbered, parts_by}
use Rattle.command.specs.declared.Parts.{Parts}
use Rattle.answer.specs.declared.Acknowledged.{Acknowledged}
use Rattle.answer.specs.declared.Acknowledged.TheVariants.{GoSleep, GoActive, GoDeepSleep, SetMult, SetThresholds, SetSetup, SetPwm}
use Rattle.answer.specs.declared.Answer.{Answer}
use Rattle.answer.specs.declared.Answer.TheVariants.{InitBidir, InitLoop, Identity, Mask, Status, TempStatus, Temp, Thresholds, Setup, Words, Acknowledgement}
use Rattle.answer.specs.declared.Answered.{Answered}

-- The number of each acknowledged command.
abbrev pub acknowledged_number : Acknowledged → ℕ
acknowledged_number GoSleep = 0x24
acknowledged_number GoActive = 0x25
acknowledged_number GoDeepSleep = 0x26
acknowledged_number SetMult = 0x2D
acknowledged_number SetThresholds = 0x6B
acknowledged_number SetSetup = 0x6D
acknowledged_number SetPwm = 0x6F

-- Each answer, with its command's number and the values that it carries.
abbrev pub answer_message_of : Answer → Message
answer_message_of (InitBidir temperature status) = numbered 0x02 (temperature ∷ status ∷ [])
answer_message_of (InitLoop temperature status) = numbered 0x03 (temperature ∷ status ∷ [])
answer_message_of (Identity identity) = numbered 0x07 (identity ∷ [])
answer_message_of (Mask mask) = numbered 0x0C (mask ∷ [])
answer_message_of (Status status) = numbered 0x40 (status ∷ [])
answer_message_of (TempStatus temperature status) = numbered 0x42 (temperature ∷ status ∷ [])
answer_message_of (Temp temperature) = numbered 0x48 (temperature ∷ [])
answer_message_of (Thresholds x y z) = numbered 0x4A (x ∷ y ∷ z ∷ [])
answer_message_of (Setup x) = numbered 0x4C (x ∷ [])
answer_message_of (Words r g b) = numbered 0x4E (pwm_fields r g b)
answer_message_of (Acknowledgement c temperature status) = numbered (acknowledged_number c) (temperature ∷ status ∷ [])

-- An answer to READMULT holds one word, to IDENTIFY one number, to READPWM three PWM words.
unfoldable pub answer_layout_of : ℕ → Layout
answer_layout_of n = cond (eqb n 0x07) long (cond (eqb n 0x0C) word (cond (eqb n 0x4E) pwm octets))

-- An answer carries the answering lamp's address, the command's number and the listed bytes.
pub record Reply : Type 0 where
  pub address : ℕ
  pub message : Message

-- A dissected answer of the code in document 01's numbers.
abbrev pub reply_of : Answered → Reply
reply_of a = record { address = a.address.0; message = answer_message_of a.answer }

-- The answer dissector's answer: its refusal, or done with the reply.
abbrev pub reply_as : Result Answered Refusal → Outcome Reply
reply_as (Ok a) = done (reply_of a)
reply_as (Err e) = refused_for (reason_of e)

-- An answer's address is 001 to 3EF, for 02 and 03 also 000.
abbrev pub answer_address : ℕ → ℕ → Bool
answer_address n a = cond (eqb a 0) (eqb n 0x02 || eqb n 0x03) (leb a 0x3EF)

-- Of a row: 6 for a number that has no answers, then 7, then 8.
abbrev pub replying : List ℕ → Telegram → Row → Outcome Reply
replying s t r =
    refuse (eqb r.answer 0) 6
    (refuse (not (answer_address t.command t.address.0)) 7
    (refuse (not (eqb t.size r.answer)) 8
    (done (record { address = t.address.0; message = numbered t.command (fields_by (answer_layout_of t.command) (payload_in s t.size)) }))))

-- Behind the reader: 6, 7, 8 as numbered.
unfoldable pub naming_answer : List ℕ → Telegram → Outcome Reply
naming_answer s t = after (row_of t.command) (replying s t)

-- The answer dissector: 1 to 8.
unfoldable pub dissecting_answer : List ℕ → Outcome Reply
dissecting_answer s = after (reading s) (naming_answer s)

-- The payload of an answer.
abbrev pub answer_payload_of : Message → List ℕ
answer_payload_of m = payload_by (answer_layout_of m.number) m.fields

-- An answer laid out.
abbrev pub answer_laid_out : Message → Parts
answer_laid_out m = parts_by (answer_layout_of m.number) m
