-- Document 01, "Commands": what the command dissector gives and what the command builder makes. Document 02, request 02: acknowledged
-- commands.
-- Assumes nothing.
use Rattle.std.specs.Prelude.{ℕ, ◌-◌, not, Result, Ok, Err, List, [], ◌∷◌, ◌++◌, length, replicate}
use Rattle.telegram.specs.Numbers.{Outcome, refused_for, done, refuse, after, fitted, reason_of}
use Rattle.telegram.specs.Telegram.{reading, payload_in, telegram_of}
use Rattle.telegram.specs.declared.Address.{Address}
use Rattle.telegram.specs.declared.Refusal.{Refusal}
use Rattle.telegram.specs.declared.Telegram.{Telegram}
use Rattle.table.specs.Casts.{destination, address_of, cast_in_range}
use Rattle.table.specs.Table.{row_of, cast_listed, payload_fits, lists_cast}
use Rattle.table.specs.declared.Row.{Row}
use Rattle.table.specs.declared.Cast.{Cast}
use Rattle.command.specs.Fields.{Layout, layout_of, fields_by, payload_by, duties_in_range, pwm_fields}
use Rattle.command.specs.declared.Command.{Command}
use Rattle.command.specs.declared.Command.TheVariants.{Reset, ClearError, InitBidir, InitLoop, GoSleep, GoActive, GoDeepSleep, Identify, ReadMult, SetMult, ReadStatus, ReadTempStatus, ReadTemp, ReadThresholds, SetThresholds, ReadSetup, SetSetup, ReadPwm, SetPwm, GoSleepSr, GoActiveSr, GoDeepSleepSr, SetMultSr, SetThresholdsSr, SetSetupSr, SetPwmSr}
use Rattle.command.specs.declared.Parts.{Parts}
use Rattle.command.specs.declared.Dissected.{Dissected}

-- A command or an answer in document 01's numbers: the number of the table and the values of its fields.
pub record Message : Type 0 where
  pub number : ℕ
  pub fields : List ℕ

-- The message with a number and fields.
abbrev pub numbered : ℕ → List ℕ → Message
numbered n f = record { number = n; fields = f }

-- Each command of the table, with its number and the values that it carries.
abbrev pub message_of : Command → Message
message_of Reset = numbered 0x00 []
message_of ClearError = numbered 0x01 []
message_of InitBidir = numbered 0x02 []
message_of InitLoop = numbered 0x03 []
message_of GoSleep = numbered 0x04 []
message_of GoActive = numbered 0x05 []
message_of GoDeepSleep = numbered 0x06 []
message_of Identify = numbered 0x07 []
message_of ReadMult = numbered 0x0C []
message_of (SetMult mask) = numbered 0x0D (mask ∷ [])
message_of ReadStatus = numbered 0x40 []
message_of ReadTempStatus = numbered 0x42 []
message_of ReadTemp = numbered 0x48 []
message_of ReadThresholds = numbered 0x4A []
message_of (SetThresholds x y z) = numbered 0x4B (x ∷ y ∷ z ∷ [])
message_of ReadSetup = numbered 0x4C []
message_of (SetSetup x) = numbered 0x4D (x ∷ [])
message_of ReadPwm = numbered 0x4E []
message_of (SetPwm r g b) = numbered 0x4F (pwm_fields r g b)
message_of GoSleepSr = numbered 0x24 []
message_of GoActiveSr = numbered 0x25 []
message_of GoDeepSleepSr = numbered 0x26 []
message_of (SetMultSr mask) = numbered 0x2D (mask ∷ [])
message_of (SetThresholdsSr x y z) = numbered 0x6B (x ∷ y ∷ z ∷ [])
message_of (SetSetupSr x) = numbered 0x6D (x ∷ [])
message_of (SetPwmSr r g b) = numbered 0x6F (pwm_fields r g b)

-- A dissected telegram names the command, its cast and its fields.
pub record Sent : Type 0 where
  pub message : Message
  pub cast : Cast

-- A dissected telegram of the code in document 01's numbers.
abbrev pub sent_as : Dissected → Sent
sent_as d = record { message = message_of d.command; cast = d.cast }

-- The dissector's answer: its refusal, or done with the command's number, its fields and its cast.
abbrev pub dissection_as : Result Dissected Refusal → Outcome Sent
dissection_as (Ok d) = done (sent_as d)
dissection_as (Err e) = refused_for (reason_of e)

-- What the heading of a telegram says of its bytes: its refusal, or done with the command in them and its cast.
abbrev pub heading_as : List ℕ → Telegram → Result Cast Refusal → Outcome Sent
heading_as s t (Ok cast) =
    done (record { message = numbered t.command (fields_by (layout_of t.command) (payload_in s t.size)); cast = cast })
heading_as s t (Err e) = refused_for (reason_of e)

-- Of a row and a cast: 7 for a cast that the table doesn't list, then 8.
abbrev pub fitting : List ℕ → Telegram → Row → Cast → Outcome Sent
fitting s t r cast =
    refuse (not (cast_listed r.casts cast)) 7
    (refuse (not (payload_fits r t.size)) 8
    (done (record { message = numbered t.command (fields_by (layout_of t.command) (payload_in s t.size)); cast = cast })))

-- Behind the reader: 6, 7, 8 as numbered.
unfoldable pub naming : List ℕ → Telegram → Outcome Sent
naming s t = after (row_of t.command) (λ (r : Row). after (destination t.address.0) (fitting s t r))

-- The command dissector: 1 to 8.
unfoldable pub dissecting : List ℕ → Outcome Sent
dissecting s = after (reading s) (naming s)

-- The payload of a command.
abbrev pub payload_of : Message → List ℕ
payload_of m = payload_by (layout_of m.number) m.fields

-- A command from its number and the bytes of its payload: 6, then 8.
unfoldable pub composing : ℕ → List ℕ → Outcome Message
composing n p =
    after (row_of n) (λ (r : Row). refuse (not (payload_fits r (length p))) 8 (done (numbered n (fields_by (layout_of n) p))))

-- The code's answer: its refusal, or done with the command.
abbrev pub composed_as : Result Command Refusal → Outcome Message
composed_as (Ok c) = done (message_of c)
composed_as (Err e) = refused_for (reason_of e)

-- The command builder, of a command, its cast and the length of the room: 10, 7, 9.
unfoldable pub building_command : Message → Cast → ℕ → Outcome (List ℕ)
building_command m cast room =
    refuse (not (cast_in_range cast)) 10
    (refuse (not (duties_in_range (layout_of m.number) m.fields)) 10
    (refuse (not (lists_cast (row_of m.number) cast)) 7
    (fitted room (telegram_of (address_of cast) m.number (payload_of m)))))

-- A message as the code lays it out: number, payload with zeros up to 8 bytes, payload size, and whether its duties are in range.
abbrev pub parts_by : Layout → Message → Parts
parts_by l m =
    record {
      number = m.number;
      bytes = payload_by l m.fields ++ replicate (8 - length (payload_by l m.fields)) 0;
      size = length (payload_by l m.fields);
      fit = duties_in_range l m.fields;
    }

-- A command laid out.
abbrev pub laid_out : Message → Parts
laid_out m = parts_by (layout_of m.number) m

-- The address of a cast for a command laid out: 10 for a cast or a duty out of range.
abbrev pub ranged_address : Parts → Cast → Outcome Address
ranged_address p cast =
    refuse (not (cast_in_range cast)) 10
    (refuse (not p.fit) 10
    (done (record { 0 = address_of cast })))
