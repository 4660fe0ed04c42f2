-- Document 01, "Commands", on payloads: how the bytes of a command or of an answer hold its fields.
-- Assumes nothing.
use Rattle.std.specs.Prelude.{ℕ, ◌+◌, ◌*◌, ◌/◌, ◌%◌, Bool, true, cond, ◌&&◌, List, [], ◌∷◌, ◌++◌, eqb, leb, get_or}
use Rattle.table.specs.Table.{plain_number}
use Rattle.command.specs.declared.Pwm.{Pwm}

-- A word of two bytes, high byte first.
abbrev pub word_at : List ℕ → ℕ → ℕ
word_at p i = get_or p i 0 * 256 + get_or p (i + 1) 0

-- The two bytes of a word.
abbrev pub word_bytes : ℕ → List ℕ
word_bytes w = w / 256 ∷ w % 256 ∷ []

-- The top bit of a PWM word is the current mode (1 is daytime), the low 15 bits the duty: both, of the word at an index ..
abbrev pub pwm_at : List ℕ → ℕ → List ℕ
pwm_at p i = word_at p i / 32768 ∷ word_at p i % 32768 ∷ []

-- .. and the two bytes of the word with a mode and a duty.
abbrev pub pwm_bytes : ℕ → ℕ → List ℕ
pwm_bytes mode duty = word_bytes (mode * 32768 + duty % 32768)

-- The mode of a PWM word as the code has it.
abbrev pub mode_of : Pwm → ℕ
mode_of x = cond x.day 1 0

-- The fields of three PWM words, red, green, blue.
abbrev pub pwm_fields : Pwm → Pwm → Pwm → List ℕ
pwm_fields r g b = mode_of r ∷ r.duty ∷ mode_of g ∷ g.duty ∷ mode_of b ∷ b.duty ∷ []

-- How a payload holds its fields: each byte by itself; one word; one number of four bytes, high byte first; red, green, blue PWM words.
pub data Layout : Type 0 where
  octets word long pwm : Layout

-- The fields that the bytes of a payload hold, a PWM word as mode and duty.
abbrev pub fields_by : Layout → List ℕ → List ℕ
fields_by octets p = p
fields_by word p = word_at p 0 ∷ []
fields_by long p = (word_at p 0 * 65536 + word_at p 2) ∷ []
fields_by pwm p = pwm_at p 0 ++ pwm_at p 2 ++ pwm_at p 4

-- The bytes of a payload that holds given fields.
abbrev pub payload_by : Layout → List ℕ → List ℕ
payload_by octets f = f
payload_by word f = word_bytes (get_or f 0 0)
payload_by long f = word_bytes (get_or f 0 0 / 65536) ++ word_bytes (get_or f 0 0 % 65536)
payload_by pwm f =
    pwm_bytes (get_or f 0 0) (get_or f 1 0) ++ pwm_bytes (get_or f 2 0) (get_or f 3 0) ++ pwm_bytes (get_or f 4 0) (get_or f 5 0)

-- No duty is above 32,767.
abbrev pub duties_in_range : Layout → List ℕ → Bool
duties_in_range octets f = true
duties_in_range word f = true
duties_in_range long f = true
duties_in_range pwm f = leb (get_or f 1 0) 32767 && (leb (get_or f 3 0) 32767 && leb (get_or f 5 0) 32767)

-- SETMULT holds one word, SETPWM three PWM words, any other plain command each byte by itself; an acknowledged command holds what its
-- plain form does.
unfoldable pub layout_of : ℕ → Layout
layout_of n = cond (eqb (plain_number n) 0x0D) word (cond (eqb (plain_number n) 0x4F) pwm octets)
