-- docs/RECORD.md: how one lamp lies in lent memory.
-- Assumes nothing.
use Rattle.std.specs.Prelude.{ℕ, ◌/◌, ◌%◌, Bool, cond, List, [], ◌∷◌, ◌++◌, eqb, get_or}
use Rattle.command.specs.Fields.{word_at, word_bytes}
use Rattle.rules.specs.declared.State.{State}
use Rattle.rules.specs.declared.State.TheVariants.{Uninitialized, Sleep, Active, DeepSleep}
use Rattle.rules.specs.declared.Flags.{Flags}
use Rattle.rules.specs.declared.Lamp.{Lamp}
use Rattle.rules.specs.Lamp.{lamp, flags, status_of}

-- A lamp's slot has 16 bytes.
abbrev pub slot_size : ℕ
slot_size = 16

-- The state in bits 7 and 6 of a status byte ..
abbrev pub state_in : ℕ → State
state_in b = cond (eqb (b / 64) 0) Uninitialized (cond (eqb (b / 64) 1) Sleep (cond (eqb (b / 64) 2) Active DeepSleep))

-- .. COM in bit 4 ..
abbrev pub direction_in : ℕ → Bool
direction_in b = eqb (b / 16 % 2) 1

-- .. and the flags OTPCRC in bit 5, CE 3, LOS 2, OT 1, UV 0.
abbrev pub flags_in : ℕ → Flags
flags_in b = flags (eqb (b / 32 % 2) 1) (eqb (b / 8 % 2) 1) (eqb (b / 4 % 2) 1) (eqb (b / 2 % 2) 1) (eqb (b % 2) 1)

-- The lamp in a slot: address (2), status byte, temperature, thresholds (3), setup, group word (2), PWM (6).
unfoldable pub lamp_of : List ℕ → Lamp
lamp_of s =
    lamp (record { 0 = word_at s 0 }) (state_in (get_or s 2 0)) (direction_in (get_or s 2 0)) (flags_in (get_or s 2 0)) (get_or s 3 0)
    (record { cycle = get_or s 4 0; low = get_or s 5 0; high = get_or s 6 0 }) (get_or s 7 0) (word_at s 8)
    (record { red = word_at s 10; green = word_at s 12; blue = word_at s 14 })

-- The slot of a lamp, the same bytes.
unfoldable pub slot_of : Lamp → List ℕ
slot_of l =
    word_bytes l.address.0 ++ (status_of l ∷ l.temperature ∷ l.thresholds.cycle ∷ l.thresholds.low ∷ l.thresholds.high ∷ l.setup ∷ [])
    ++ word_bytes l.groups ++ word_bytes l.pwm.red ++ word_bytes l.pwm.green ++ word_bytes l.pwm.blue
