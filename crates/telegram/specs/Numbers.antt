-- Document 01, "Numbers given back": what a call gives back, and which number each refusal has.
-- Assumes nothing.
use Rattle.std.specs.Prelude.{ℕ, ◌+◌, ◌*◌, Bool, true, false, Option, Some, None, Result, Ok, Err, List, [], ◌∷◌, ◌++◌, nat_lt, length, drop}
use Rattle.telegram.specs.declared.Refusal.{Refusal}
use Rattle.telegram.specs.declared.Refusal.TheVariants.{TooShort, Preamble, SizeIndex, ByteCount, Checksum, UnknownCommand, CastNotAllowed, PayloadSize, RoomTooSmall, OutOfRange, NoChain, InitPastEnd, NoLamp}
use Rattle.telegram.specs.declared.Checksums.{Checksums}

-- Why a call refuses: the number of the table, and what the refusal carries.
pub record Reason : Type 0 where
  pub number : ℕ
  pub carries : List ℕ

-- A number that carries nothing.
abbrev pub bare : ℕ → Reason
bare n = record { number = n; carries = [] }

-- What a call gives back: a refusal with its reason, or done (number 0) with a value.
pub data Outcome (A : Type 0) : Type 0 where
  refused_for : Reason → Outcome A
  done : A → Outcome A

-- A refusal that is its number alone.
abbrev pub refused : {A : Type 0} → ℕ → Outcome A
refused n = refused_for (bare n)

-- One line of an order of tests: where the test holds the call is refused for this reason, else the rest decides.
abbrev pub refuse_for : {A : Type 0} → Bool → Reason → Outcome A → Outcome A
refuse_for true e rest = refused_for e
refuse_for false e rest = rest

-- The same with a number alone.
abbrev pub refuse : {A : Type 0} → Bool → ℕ → Outcome A → Outcome A
refuse b n rest = refuse_for b (bare n) rest

-- What is refused goes no further, and is passed on whole; what is done goes on.
abbrev pub after : {A B : Type 0} → Outcome A → (A → Outcome B) → Outcome B
after (refused_for e) next = refused_for e
after (done a) next = next a

-- A wrong checksum: 5, with the checksum worked out and the one received.
abbrev pub wrong_checksum : ℕ → ℕ → Reason
wrong_checksum computed received = record { number = 5; carries = computed ∷ received ∷ [] }

-- The table: the reason of each refusal. Only 5 carries something.
abbrev pub reason_of : Refusal → Reason
reason_of TooShort = bare 1
reason_of Preamble = bare 2
reason_of SizeIndex = bare 3
reason_of ByteCount = bare 4
reason_of (Checksum computed received) = wrong_checksum computed received
reason_of UnknownCommand = bare 6
reason_of CastNotAllowed = bare 7
reason_of PayloadSize = bare 8
reason_of RoomTooSmall = bare 9
reason_of OutOfRange = bare 10
reason_of NoChain = bare 11
reason_of InitPastEnd = bare 12
reason_of NoLamp = bare 13

-- The number of a refusal.
abbrev pub number_of : Refusal → ℕ
number_of e = (reason_of e).number

-- Bytes as a number, low byte first.
abbrev pub low_first : List ℕ → ℕ
low_first [] = 0
low_first (b ∷ l) = b + low_first l * 256

-- A reason in one number: its own in the lowest byte, and what it carries in the bytes above.
abbrev pub value_of : Reason → ℕ
value_of e = low_first (e.number ∷ e.carries)

-- The checksums of a refusal as the code gives them.
abbrev pub checksums_as : Option Checksums → List ℕ
checksums_as (Some c) = c.computed ∷ c.received ∷ []
checksums_as None = []

-- What the code answers: its refusal, or done with a value.
abbrev pub outcome_of : {A : Type 0} → Result A Refusal → Outcome A
outcome_of (Ok a) = done a
outcome_of (Err e) = refused_for (reason_of e)

-- What the code answers where one refusal alone is possible, that of a number: the value, or none.
abbrev pub outcome_or : {A : Type 0} → ℕ → Option A → Outcome A
outcome_or n (Some a) = done a
outcome_or n None = refused n

-- How many bytes an outcome that is bytes has.
abbrev pub counted : Outcome (List ℕ) → Outcome ℕ
counted (refused_for e) = refused_for e
counted (done s) = done (length s)

-- Room is too small when it is shorter than what would be written: 9.
abbrev pub fitted : ℕ → List ℕ → Outcome (List ℕ)
fitted room s = refuse (nat_lt room (length s)) 9 (done s)

-- Bytes written to the front of a lent room; the bytes past the last written one stay.
abbrev pub front : List ℕ → List ℕ → List ℕ
front s room = s ++ drop (length s) room

-- The lent room after an outcome that is bytes: a refusal leaves it as it was.
abbrev pub leaves : Outcome (List ℕ) → List ℕ → List ℕ
leaves (refused_for e) room = room
leaves (done s) room = front s room
