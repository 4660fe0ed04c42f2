-- Document 01, "A lamp and the chain", on one lamp: its status byte, and what it does with a command. Document 02, request 02: what it
-- does with an acknowledged command.
-- Assumes nothing.
use Rattle.std.specs.Prelude.{ℕ, ◌+◌, ◌*◌, ◌/◌, ◌%◌, ◌^◌, Bool, true, false, cond, not, ◌||◌, List, [], ◌∷◌, ◌++◌, eqb, leb, get_or}
use Rattle.telegram.specs.declared.Address.{Address}
use Rattle.table.specs.Table.{acknowledged, plain_number}
use Rattle.command.specs.Fields.{word_bytes}
use Rattle.command.specs.Commands.{Message, numbered}
use Rattle.rules.specs.declared.State.{State}
use Rattle.rules.specs.declared.State.TheVariants.{Uninitialized, Sleep, Active, DeepSleep}
use Rattle.rules.specs.declared.Flags.{Flags}
use Rattle.rules.specs.declared.Thresholds.{Thresholds}
use Rattle.rules.specs.declared.Words.{Words}
use Rattle.rules.specs.declared.Defaults.{Defaults}
use Rattle.rules.specs.declared.Lamp.{Lamp}

-- State: 0 UNINITIALIZED, 1 SLEEP, 2 ACTIVE, 3 DEEPSLEEP.
abbrev pub state_number : State → ℕ
state_number Uninitialized = 0
state_number Sleep = 1
state_number Active = 2
state_number DeepSleep = 3

-- A bit as a number.
abbrev pub bit : Bool → ℕ
bit true = 1
bit false = 0

-- Status byte: state bits 7 and 6, OTPCRC 5, COM 4, CE 3, LOS 2, OT 1, UV 0.
abbrev pub status_byte : State → Bool → Flags → ℕ
status_byte s loop f =
    state_number s * 64 + bit f.otpcrc * 32 + bit loop * 16 + bit f.ce * 8 + bit f.los * 4 + bit f.ot * 2 + bit f.uv

-- The status byte of a lamp.
abbrev pub status_of : Lamp → ℕ
status_of l = status_byte l.state l.direction l.flags

-- A lamp of its fields, in the paper's order.
abbrev pub lamp : Address → State → Bool → Flags → ℕ → Thresholds → ℕ → ℕ → Words → Lamp
lamp a s loop f t th setup groups pwm =
    record {
      address = a;
      state = s;
      direction = loop;
      flags = f;
      temperature = t;
      thresholds = th;
      setup = setup;
      groups = groups;
      pwm = pwm;
    }

-- A lamp with another state and nothing else changed ..
abbrev pub with_state : State → Lamp → Lamp
with_state s l = lamp l.address s l.direction l.flags l.temperature l.thresholds l.setup l.groups l.pwm

-- .. with other flags ..
abbrev pub with_flags : Flags → Lamp → Lamp
with_flags f l = lamp l.address l.state l.direction f l.temperature l.thresholds l.setup l.groups l.pwm

-- .. with other thresholds ..
abbrev pub with_thresholds : Thresholds → Lamp → Lamp
with_thresholds th l = lamp l.address l.state l.direction l.flags l.temperature th l.setup l.groups l.pwm

-- .. with another setup byte ..
abbrev pub with_setup : ℕ → Lamp → Lamp
with_setup x l = lamp l.address l.state l.direction l.flags l.temperature l.thresholds x l.groups l.pwm

-- .. with another group word ..
abbrev pub with_groups : ℕ → Lamp → Lamp
with_groups w l = lamp l.address l.state l.direction l.flags l.temperature l.thresholds l.setup w l.pwm

-- .. with other PWM words.
abbrev pub with_pwm : Words → Lamp → Lamp
with_pwm w l = lamp l.address l.state l.direction l.flags l.temperature l.thresholds l.setup l.groups w

-- Five flags of their values, in the order of the status byte.
abbrev pub flags : Bool → Bool → Bool → Bool → Bool → Flags
flags otpcrc ce los ot uv = record { otpcrc = otpcrc; ce = ce; los = los; ot = ot; uv = uv }

-- No flag is set.
abbrev pub no_flags : Flags
no_flags = flags false false false false false

-- The five flags become 0.
abbrev pub cleared : Lamp → Lamp
cleared l = with_flags no_flags l

-- CE set, the other flags as they were.
abbrev pub marked : Flags → Flags
marked f = flags f.otpcrc true f.los f.ot f.uv

-- A lamp with CE set.
abbrev pub with_ce : Lamp → Lamp
with_ce l = with_flags (marked l.flags) l

-- Hex 3FF is a lamp without an address.
abbrev pub no_address : Address
no_address = record { 0 = 0x3FF }

-- What RESET leaves, with a temperature: address 3FF, state 0, COM 1, flags, group word and PWM 0, setup and thresholds the defaults.
abbrev pub blank : Defaults → ℕ → Lamp
blank d t =
    lamp no_address Uninitialized true no_flags t d.thresholds d.setup 0 (record { red = 0; green = 0; blue = 0 })

-- RESET: temperature kept.
abbrev pub reset : Defaults → Lamp → Lamp
reset d l = blank d l.temperature

-- The field of a command at an index.
abbrev pub field : Message → ℕ → ℕ
field m i = get_or m.fields i 0

-- A PWM word of its mode and duty, two fields of SETPWM: the mode is the top bit ..
abbrev pub pwm_word : List ℕ → ℕ → ℕ
pwm_word f i = get_or f i 0 * 32768 + get_or f (i + 1) 0 % 32768

-- .. and the three words.
abbrev pub pwm_words : List ℕ → Words
pwm_words f = record { red = pwm_word f 0; green = pwm_word f 2; blue = pwm_word f 4 }

-- What a lamp that obeys a plain command becomes, by the command's number. CLRERROR, READSTATUS and READTEMPST clear the five flags, GO
-- commands set the state, set commands store; the others change nothing.
unfoldable pub changed_plain : Defaults → Message → Lamp → Lamp
changed_plain d m l =
    cond (eqb m.number 0x00) (reset d l)  -- RESET
    (cond (eqb m.number 0x01) (cleared l)  -- CLRERROR
    (cond (eqb m.number 0x04) (with_state Sleep l)  -- GOSLEEP
    (cond (eqb m.number 0x05) (with_state Active l)  -- GOACTIVE
    (cond (eqb m.number 0x06) (with_state DeepSleep l)  -- GODEEPSLEEP
    (cond (eqb m.number 0x0D) (with_groups (field m 0) l)  -- SETMULT
    (cond (eqb m.number 0x40) (cleared l)  -- READSTATUS
    (cond (eqb m.number 0x42) (cleared l)  -- READTEMPST
    (cond (eqb m.number 0x4B) (with_thresholds (record { cycle = field m 0; low = field m 1; high = field m 2 }) l)  -- SETOTTH
    (cond (eqb m.number 0x4D) (with_setup (field m 0) l)  -- SETSETUP
    (cond (eqb m.number 0x4F) (with_pwm (pwm_words m.fields) l)  -- SETPWM
    l))))))))))

-- The plain form of a command: the same fields under its number.
abbrev pub plain_form : Message → Message
plain_form m = numbered (plain_number m.number) m.fields

-- What a lamp that obeys a command becomes: each acknowledged command does what its plain form does.
abbrev pub changed : Defaults → Message → Lamp → Lamp
changed d m l = changed_plain d (plain_form m) l

-- READTEMPST is temperature, then status.
abbrev pub report : Lamp → List ℕ
report l = l.temperature ∷ status_of l ∷ []

-- What a lamp that obeys a plain command answers, by the command's number: the register as it stood when the command came, so flags are
-- answered before they are cleared. No bytes is no answer.
unfoldable pub told_plain : ℕ → Lamp → List ℕ
told_plain n l =
    cond (eqb n 0x07) (0 ∷ 0 ∷ 0 ∷ 0 ∷ [])  -- IDENTIFY
    (cond (eqb n 0x0C) (word_bytes l.groups)  -- READMULT
    (cond (eqb n 0x40) (status_of l ∷ [])  -- READSTATUS
    (cond (eqb n 0x42) (report l)  -- READTEMPST
    (cond (eqb n 0x48) (l.temperature ∷ [])  -- READTEMP
    (cond (eqb n 0x4A) (l.thresholds.cycle ∷ l.thresholds.low ∷ l.thresholds.high ∷ [])  -- READOTTH
    (cond (eqb n 0x4C) (l.setup ∷ [])  -- READSETUP
    (cond (eqb n 0x4E) (word_bytes l.pwm.red ++ word_bytes l.pwm.green ++ word_bytes l.pwm.blue)  -- READPWM
    [])))))))

-- What a lamp that obeys a command answers. An acknowledged command does what its plain form does, then answers with the two bytes of
-- READTEMPST as they stand after the effect, clearing no flag.
abbrev pub told : Defaults → Message → Lamp → List ℕ
told d m l = cond (acknowledged m.number) (report (changed d m l)) (told_plain m.number l)

-- The state is UNINITIALIZED.
abbrev pub uninitialized : State → Bool
uninitialized Uninitialized = true
uninitialized Sleep = false
uninitialized Active = false
uninitialized DeepSleep = false

-- A lamp in UNINITIALIZED obeys only RESET, CLRERROR and init; the rest passes it by. (Of init see the chain.)
abbrev pub obeys : ℕ → State → Bool
obeys n s = not (uninitialized s) || leb n 0x01

-- What becomes of a lamp that a command reaches ..
unfoldable pub acted : Defaults → Message → Lamp → Lamp
acted d m l = cond (obeys m.number l.state) (changed d m l) l

-- .. and the bytes of its answer.
unfoldable pub answered : Defaults → Message → Lamp → List ℕ
answered d m l = cond (obeys m.number l.state) (told d m l) []

-- Bit g makes the lamp a member of group g.
unfoldable pub member : ℕ → Lamp → Bool
member g l = eqb (l.groups / 2 ^ g % 2) 1

-- Init from a first address, at the lamp that gets the address a: state SLEEP, COM 0 for INITBIDIR and 1 for INITLOOP.
abbrev pub numbered_as : ℕ → ℕ → Lamp → Lamp
numbered_as n a l =
    lamp (record { 0 = a }) Sleep (eqb n 0x03) l.flags l.temperature l.thresholds l.setup l.groups l.pwm

-- The flags named by a sum of 4 for LOS, 2 for OT and 1 for UV set. 0 sets none; no flag is cleared.
abbrev pub faulted : ℕ → Flags → Flags
faulted faults f =
    flags f.otpcrc f.ce (f.los || eqb (faults / 4 % 2) 1) (f.ot || eqb (faults / 2 % 2) 1) (f.uv || eqb (faults % 2) 1)

-- A sensor report stores a temperature and sets flags.
abbrev pub sensed : ℕ → ℕ → Lamp → Lamp
sensed t faults l =
    lamp l.address l.state l.direction (faulted faults l.flags) t l.thresholds l.setup l.groups l.pwm
