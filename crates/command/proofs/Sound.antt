-- What every command has, by cases: a row of the table that its payload fits, a payload that holds its fields, and a message
-- that is its own.
-- Assumes nothing.
use mathlib.Core.Path.{◌≡◌, refl, ap}
use mathlib.Core.Bool.{Bool, true, false, cond, ◌&&◌}
use mathlib.Core.List.{List, [], ◌∷◌}
use Prim.Native.Nat.{ℕ, ◌+◌, ◌*◌, ◌/◌, ◌%◌, ◌≤◌}
use native.Mathlib.Omega.{arith}
use native.Mathlib.Nat.{div-add-mod'}
use lib.Dec.{eqb, leb, lit≤}
use lib.ListN.{length, get_or}
use borrow.Author.Tests.{leb-true}
use Rattle.telegram.specs.Telegram.{listed}
use Rattle.table.specs.Table.{row_of, acknowledged, plain_number, size_right}
use Rattle.command.specs.Fields.{pwm, layout_of, fields_by, payload_by, duties_in_range, mode_of, pwm_fields}
use Rattle.command.specs.Commands.{Message, message_of, payload_of}
use Rattle.command.specs.declared.Pwm.{Pwm}
use Rattle.command.specs.declared.Command.{Command}
use Rattle.command.specs.declared.Command.TheVariants.{Reset, ClearError, InitBidir, InitLoop, GoSleep, GoActive, GoDeepSleep, Identify, ReadMult, SetMult, ReadStatus, ReadTempStatus, ReadTemp, ReadThresholds, SetThresholds, ReadSetup, SetSetup, ReadPwm, SetPwm, GoSleepSr, GoActiveSr, GoDeepSleepSr, SetMultSr, SetThresholdsSr, SetSetupSr, SetPwmSr}
use Rattle.telegram.proofs.Building.{listed_le}
use Rattle.table.proofs.Both.{and_left, and_right}

-- A PWM word from two fields.
pub pwm-in : List ℕ → ℕ → ℕ → Pwm
pwm-in f i j = record { day = eqb (get_or f i 0) 1; duty = get_or f j 0 }

-- The command of a message.
pub command-in : Message → Command
command-in m =
    let n = m.number in
    let f = m.fields in
    cond (eqb n 0x00) Reset
    (cond (eqb n 0x01) ClearError
    (cond (eqb n 0x02) InitBidir
    (cond (eqb n 0x03) InitLoop
    (cond (eqb n 0x04) GoSleep
    (cond (eqb n 0x05) GoActive
    (cond (eqb n 0x06) GoDeepSleep
    (cond (eqb n 0x07) Identify
    (cond (eqb n 0x0C) ReadMult
    (cond (eqb n 0x0D) (SetMult (get_or f 0 0))
    (cond (eqb n 0x40) ReadStatus
    (cond (eqb n 0x42) ReadTempStatus
    (cond (eqb n 0x48) ReadTemp
    (cond (eqb n 0x4A) ReadThresholds
    (cond (eqb n 0x4B) (SetThresholds (get_or f 0 0) (get_or f 1 0) (get_or f 2 0))
    (cond (eqb n 0x4C) ReadSetup
    (cond (eqb n 0x4D) (SetSetup (get_or f 0 0))
    (cond (eqb n 0x4E) ReadPwm
    (cond (eqb n 0x4F) (SetPwm (pwm-in f 0 1) (pwm-in f 2 3) (pwm-in f 4 5))
    (cond (eqb n 0x24) GoSleepSr
    (cond (eqb n 0x25) GoActiveSr
    (cond (eqb n 0x26) GoDeepSleepSr
    (cond (eqb n 0x2D) (SetMultSr (get_or f 0 0))
    (cond (eqb n 0x6B) (SetThresholdsSr (get_or f 0 0) (get_or f 1 0) (get_or f 2 0))
    (cond (eqb n 0x6D) (SetSetupSr (get_or f 0 0))
    (SetPwmSr (pwm-in f 0 1) (pwm-in f 2 3) (pwm-in f 4 5))))))))))))))))))))))))))

mode-back : (b : Bool) → eqb (cond b 1 0) 1 ≡ b
mode-back true = refl
mode-back false = refl

pub record Sound (c : Command) (m : Message) : Type 0 where
  pub number : m.number ≤ 127
  pub length-listed : listed (length (payload_of m)) ≡ true
  pub size : size_right m.number (length (payload_of m)) ≡ true
  pub back : duties_in_range (layout_of m.number) m.fields ≡ true → fields_by (layout_of m.number) (payload_of m) ≡ m.fields
  pub same : command-in m ≡ c

word-forth : (w : ℕ) → w / 256 * 256 + w % 256 ≡ w
word-forth w = div-add-mod' w 256

mode-le : (b : Bool) → cond b 1 0 ≤ 1
mode-le true = omega arith
mode-le false = omega arith

-- mode and duty of a PWM word come back
mode-forth : (x : Pwm) → (mode_of x * 32768 + x.duty % 32768) / 32768 ≡ mode_of x
mode-forth x = let m = mode_of x in let h : m ≤ 1 = mode-le x.day in omega arith

duty-forth : (x : Pwm) → leb x.duty 32767 ≡ true → (mode_of x * 32768 + x.duty % 32768) % 32768 ≡ x.duty
duty-forth x h = let m = mode_of x in let d = x.duty in let k : d ≤ 32767 = leb-true d 32767 h in omega arith

pwm-forth : (r g b : Pwm) → duties_in_range pwm (pwm_fields r g b) ≡ true → fields_by pwm (payload_by pwm (pwm_fields r g b)) ≡ pwm_fields r g b
pwm-forth r g b h =
    let hr : leb r.duty 32767 ≡ true = and_left _ _ h in
    let k : (leb g.duty 32767 && leb b.duty 32767) ≡ true = and_right (leb r.duty 32767) _ h in
    let hg : leb g.duty 32767 ≡ true = and_left _ _ k in
    let hb : leb b.duty 32767 ≡ true = and_right (leb g.duty 32767) _ k in
    simp
    (word-forth, mode-forth r, mode-forth g, mode-forth b, duty-forth r hr, duty-forth g hg, duty-forth b hb)

pub sound : (c : Command) → Sound c (message_of c)
unfolding layout_of row_of acknowledged plain_number command-in pwm-in
sound Reset = record { number = lit≤ tt; length-listed = refl; size = refl; back = λ h. refl; same = refl }
sound ClearError = record { number = lit≤ tt; length-listed = refl; size = refl; back = λ h. refl; same = refl }
sound InitBidir = record { number = lit≤ tt; length-listed = refl; size = refl; back = λ h. refl; same = refl }
sound InitLoop = record { number = lit≤ tt; length-listed = refl; size = refl; back = λ h. refl; same = refl }
sound GoSleep = record { number = lit≤ tt; length-listed = refl; size = refl; back = λ h. refl; same = refl }
sound GoActive = record { number = lit≤ tt; length-listed = refl; size = refl; back = λ h. refl; same = refl }
sound GoDeepSleep = record { number = lit≤ tt; length-listed = refl; size = refl; back = λ h. refl; same = refl }
sound Identify = record { number = lit≤ tt; length-listed = refl; size = refl; back = λ h. refl; same = refl }
sound ReadMult = record { number = lit≤ tt; length-listed = refl; size = refl; back = λ h. refl; same = refl }
sound (SetMult w) = record { number = lit≤ tt; length-listed = refl; size = refl; back = λ h. ap (λ (x : ℕ). x ∷ []) (word-forth w); same = refl }
sound ReadStatus = record { number = lit≤ tt; length-listed = refl; size = refl; back = λ h. refl; same = refl }
sound ReadTempStatus = record { number = lit≤ tt; length-listed = refl; size = refl; back = λ h. refl; same = refl }
sound ReadTemp = record { number = lit≤ tt; length-listed = refl; size = refl; back = λ h. refl; same = refl }
sound ReadThresholds = record { number = lit≤ tt; length-listed = refl; size = refl; back = λ h. refl; same = refl }
sound (SetThresholds x y z) = record { number = lit≤ tt; length-listed = refl; size = refl; back = λ h. refl; same = refl }
sound ReadSetup = record { number = lit≤ tt; length-listed = refl; size = refl; back = λ h. refl; same = refl }
sound (SetSetup x) = record { number = lit≤ tt; length-listed = refl; size = refl; back = λ h. refl; same = refl }
sound ReadPwm = record { number = lit≤ tt; length-listed = refl; size = refl; back = λ h. refl; same = refl }
sound (SetPwm r g b) = record { number = lit≤ tt; length-listed = refl; size = refl; back = pwm-forth r g b; same = simp (mode-back r.day, mode-back g.day, mode-back b.day) }
sound GoSleepSr = record { number = lit≤ tt; length-listed = refl; size = refl; back = λ h. refl; same = refl }
sound GoActiveSr = record { number = lit≤ tt; length-listed = refl; size = refl; back = λ h. refl; same = refl }
sound GoDeepSleepSr = record { number = lit≤ tt; length-listed = refl; size = refl; back = λ h. refl; same = refl }
sound (SetMultSr w) = record { number = lit≤ tt; length-listed = refl; size = refl; back = λ h. ap (λ (x : ℕ). x ∷ []) (word-forth w); same = refl }
sound (SetThresholdsSr x y z) = record { number = lit≤ tt; length-listed = refl; size = refl; back = λ h. refl; same = refl }
sound (SetSetupSr x) = record { number = lit≤ tt; length-listed = refl; size = refl; back = λ h. refl; same = refl }
sound (SetPwmSr r g b) = record { number = lit≤ tt; length-listed = refl; size = refl; back = pwm-forth r g b; same = simp (mode-back r.day, mode-back g.day, mode-back b.day) }

-- No payload is longer than 8 bytes.
pub command-short : (c : Command) → length (payload_of (message_of c)) ≤ 8
command-short c = listed_le (length (payload_of (message_of c))) (sound c).length-listed
