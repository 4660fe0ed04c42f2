-- The C interface over numbers and byte slices: what each function returns and what it leaves in the lent room.
-- Assumes nothing.
use Rattle.std.specs.Prelude.{ℕ, ◌/◌, ◌%◌, false, cond, not, ◌&&◌, List, [], ◌∷◌, ◌++◌, eqb, leb, ltb, length}
use Rattle.telegram.specs.Numbers.{Outcome, refused, done, refuse, after, fitted}
use Rattle.telegram.specs.Telegram.{reading, payload_in}
use Rattle.telegram.specs.declared.Telegram.{Telegram}
use Rattle.table.specs.Casts.{cast_kind, cast_value}
use Rattle.table.specs.declared.Cast.{Cast}
use Rattle.table.specs.declared.Cast.TheVariants.{Everyone, One, Group}
use Rattle.command.specs.Fields.{word_bytes}
use Rattle.command.specs.Commands.{Message, numbered, Sent, payload_of, dissecting, composing, building_command}
use Rattle.answer.specs.Answers.{Reply, answer_payload_of, dissecting_answer}
use Rattle.rules.specs.declared.State.TheVariants.{Uninitialized}
use Rattle.rules.specs.declared.Defaults.{Defaults}
use Rattle.rules.specs.declared.Lamp.{Lamp}
use Rattle.rules.specs.Lamp.{bit, state_number, status_byte}
use Rattle.rules.specs.Chain.{Chain}
use Rattle.chain.specs.Record.{length_for}
use Rattle.chain.specs.Memory.{silent, lamp_read}
use Rattle.reader.specs.Interface.{packed}

-- `osp_read` writes the address (2), command, payload size, payload.
abbrev pub read_bytes : List ℕ → Telegram → List ℕ
read_bytes s t = word_bytes t.address.0 ++ (t.command ∷ t.size ∷ []) ++ payload_in s t.size

-- `osp_read`: 1 to 5, then 9.
unfoldable pub osp_read : List ℕ → ℕ → Outcome (List ℕ)
osp_read s room = after (reading s) (λ (t : Telegram). fitted room (read_bytes s t))

-- `osp_dissect` writes the command, cast (0 everyone, 1 one lamp, 2 group), address or group (2), payload size, payload.
abbrev pub sent_bytes : Sent → List ℕ
sent_bytes m =
    (m.message.number ∷ cast_kind m.cast ∷ []) ++ word_bytes (cast_value m.cast) ++ (length (payload_of m.message) ∷ [])
    ++ payload_of m.message

-- `osp_dissect`: 1 to 8, then 9.
unfoldable pub osp_dissect : List ℕ → ℕ → Outcome (List ℕ)
osp_dissect s room = after (dissecting s) (λ (m : Sent). fitted room (sent_bytes m))

-- `osp_dissect_answer` writes the command, address (2), answer size, answer bytes.
abbrev pub reply_bytes : Reply → List ℕ
reply_bytes a =
    (a.message.number ∷ []) ++ word_bytes a.address ++ (length (answer_payload_of a.message) ∷ []) ++ answer_payload_of a.message

-- `osp_dissect_answer`: 1 to 8, then 9.
unfoldable pub osp_dissect_answer : List ℕ → ℕ → Outcome (List ℕ)
osp_dissect_answer s room = after (dissecting_answer s) (λ (a : Reply). fitted room (reply_bytes a))

-- A cast from its two numbers: 10 for a kind above 2 and for a value outside the kind's range. Everyone has the value 0.
unfoldable pub directing : ℕ → ℕ → Outcome Cast
directing kind value =
    cond (eqb kind 0) (refuse (not (eqb value 0)) 10 (done Everyone))
    (cond (eqb kind 1) (refuse (not (leb 1 value && leb value 0x3EF)) 10 (done (One (record { 0 = value }))))
    (cond (eqb kind 2) (refuse (not (leb value 14)) 10 (done (Group value)))
    (refused 10)))

-- The command builder for a cast in two numbers: 10, 7, 9.
unfoldable pub building_directed : Message → ℕ → ℕ → ℕ → Outcome (List ℕ)
building_directed m kind value room = after (directing kind value) (λ (cast : Cast). building_command m cast room)

-- `osp_build_command`: 6 and 8 for what names no command, then 10, 7, 9.
unfoldable pub osp_build_command : ℕ → ℕ → ℕ → List ℕ → ℕ → Outcome (List ℕ)
osp_build_command command kind value p room = after (composing command p) (λ (m : Message). building_directed m kind value room)

-- SETPWM in numbers; modes is a sum of 4 for red, 2 for green and 1 for blue in daytime mode.
abbrev pub pwm_message : ℕ → ℕ → ℕ → ℕ → Message
pwm_message modes r g b = numbered 0x4F (modes / 4 % 2 ∷ r ∷ modes / 2 % 2 ∷ g ∷ modes % 2 ∷ b ∷ [])

-- `osp_build_pwm`: 10 for modes above 7, a duty above 32,767 and a cast out of range, then 9.
unfoldable pub osp_build_pwm : ℕ → ℕ → ℕ → ℕ → ℕ → ℕ → ℕ → Outcome (List ℕ)
osp_build_pwm kind value modes r g b room =
    refuse (ltb 7 modes) 10
    (refuse (ltb 32767 r) 10
    (refuse (ltb 32767 g) 10
    (refuse (ltb 32767 b) 10
    (building_directed (pwm_message modes r g b) kind value room))))

-- `osp_record_len`: the record's length, 0 for a count that is not 1 to 1007.
abbrev pub osp_record_len : ℕ → ℕ
osp_record_len n = length_for n

-- The defaults of a chain from their four bytes.
abbrev pub defaults_from : ℕ → ℕ → ℕ → ℕ → Defaults
defaults_from setup t0 t1 t2 = record { setup = setup; thresholds = record { cycle = t0; low = t1; high = t2 } }

-- What a call that refuses or gives a chain returns: it writes no bytes to a room.
abbrev pub returned_bare : Outcome Chain → ℕ
returned_bare o = packed (silent o)

-- `osp_lamp` writes the address (2), state, COM, flags (as in the status byte), temperature, thresholds (3), setup, group word (2) ..
abbrev pub lamp_head : Lamp → List ℕ
lamp_head l =
    word_bytes l.address.0
    ++ (state_number l.state ∷ bit l.direction ∷ status_byte Uninitialized false l.flags ∷ l.temperature ∷ l.thresholds.cycle ∷ l.thresholds.low ∷ l.thresholds.high ∷ l.setup ∷ [])
    ++ word_bytes l.groups

-- .. and PWM (6).
abbrev pub lamp_bytes : Lamp → List ℕ
lamp_bytes l = lamp_head l ++ (word_bytes l.pwm.red ++ word_bytes l.pwm.green ++ word_bytes l.pwm.blue)

-- `osp_lamp`: 11, 13, then 9.
unfoldable pub osp_lamp : List ℕ → ℕ → ℕ → Outcome (List ℕ)
osp_lamp mem p room = after (lamp_read mem p) (λ (l : Lamp). fitted room (lamp_bytes l))
