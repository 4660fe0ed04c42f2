-- Request 01 for C callers: how the state of a reading lies in lent memory. docs/RECORD.md has the table.
-- Assumes nothing.
use Rattle.std.specs.Prelude.{ℕ, ◌+◌, ◌*◌, ◌/◌, ◌%◌, cond, not, ◌&&◌, Option, Some, None, List, [], ◌∷◌, ◌++◌, length, take, drop, replicate, ◌==◌, nat_le, nat_lt, slice_index}
use Rattle.telegram.specs.Numbers.{Reason, bare, Outcome, refused, done, refuse, after, wrong_checksum, front}
use Rattle.capture.specs.declared.Phase.{Phase}
use Rattle.capture.specs.declared.Reading.{Reading}
use Rattle.capture.specs.State.{Standing, going, ended, stopped_for, checksums_in, standing_of, State, state_of}

-- How many bytes the state has.
abbrev pub reader_size : ℕ
reader_size = 21

-- What stopped a reading, by the number and the first two of bytes 10 to 20: with 5 these are the checksum worked out and the one received.
abbrev pub reason_in : ℕ → ℕ → ℕ → Reason
reason_in n computed received = cond (n == 5) (wrong_checksum computed received) (bare n)

-- Byte 0: 0 open, 1 ended, 2 stopped by a refusal, whose number, 1 to 5, is byte 1; 11 for anything else.
abbrev pub standing_in : ℕ → ℕ → ℕ → ℕ → Outcome Standing
standing_in phase value computed received =
    cond (phase == 0) (done going)
    (cond (phase == 1) (done ended)
    (refuse (not (phase == 2)) 11
    (refuse (not (nat_le 1 value && nat_le value 5)) 11
    (done (stopped_for (reason_in value computed received))))))

-- How the reading in memory stands.
abbrev pub stands_in : List ℕ → Outcome Standing
stands_in mem = standing_in (slice_index mem 0) (slice_index mem 1) (slice_index mem 10) (slice_index mem 11)

-- Byte 1 of a reading that was not stopped: how many bytes are carried.
abbrev pub count_in : Standing → ℕ → ℕ
count_in going value = value
count_in ended value = value
count_in (stopped_for e) value = 0

-- A number in bytes, high byte first; n stands before them.
abbrev pub number_in : ℕ → List ℕ → ℕ
number_in n [] = n
number_in n (b ∷ l) = number_in (n * 256 + b) l

-- Bytes 2 to 9: the position.
abbrev pub position_in : List ℕ → ℕ
position_in mem =
    number_in 0 (slice_index mem 2 ∷ slice_index mem 3 ∷ slice_index mem 4 ∷ slice_index mem 5 ∷ slice_index mem 6 ∷ slice_index mem 7 ∷ slice_index mem 8 ∷ slice_index mem 9 ∷ [])

-- Bytes 10 to 20: those that are carried, and zeros; the twelfth place of a state is 0. Checksums that stand there are not carried.
abbrev pub carried_bytes : Standing → List ℕ → List ℕ
carried_bytes k mem = front (replicate (length (checksums_in k)) 0) (take 11 (drop 10 mem) ++ 0 ∷ [])

-- The state that memory holds: 11 where it is too short, or byte 0 or the number is outside its range.
unfoldable pub state_in : List ℕ → Outcome State
state_in mem =
    refuse (nat_lt (length mem) reader_size) 11
    (after (stands_in mem)
    (λ (k : Standing). done (record { standing = k; count = count_in k (slice_index mem 1); position = position_in mem; bytes = carried_bytes k mem })))

-- Byte 0 of a state, and byte 1.
abbrev pub standing_byte : Standing → ℕ
standing_byte going = 0
standing_byte ended = 1
standing_byte (stopped_for e) = 2

abbrev pub value_byte : Standing → ℕ → ℕ
value_byte going count = count
value_byte ended count = count
value_byte (stopped_for e) count = e.number

-- The position, high byte first.
abbrev pub position_bytes : ℕ → List ℕ
position_bytes p =
    p / 72057594037927936 % 256 ∷ p / 281474976710656 % 256 ∷ p / 1099511627776 % 256 ∷ p / 4294967296 % 256 ∷ p / 16777216 % 256 ∷ p / 65536 % 256 ∷ p / 256 % 256 ∷ p % 256 ∷ []

-- The first ten bytes of a state ..
abbrev pub state_head : State → List ℕ
state_head s = standing_byte s.standing ∷ value_byte s.standing s.count ∷ position_bytes s.position

-- .. and all of them: the bytes that are carried, or the checksums of a reading that 5 stopped, in their place.
abbrev pub state_bytes : State → List ℕ
state_bytes s = state_head s ++ take 11 (front (checksums_in s.standing) s.bytes)

-- Memory that holds a state; bytes behind it stay.
abbrev pub holding : State → List ℕ → List ℕ
holding s mem = front (state_bytes s) mem

-- How a reading stands, as the code read it: 11 where the bytes do not say it.
abbrev pub begun_as : Option Phase → Outcome Standing
begun_as (Some k) = done (standing_of k)
begun_as None = refused 11

-- What was read out of memory: a state, or that there is none, which is 11.
abbrev pub held_as : Option Reading → Outcome State
held_as (Some r) = done (state_of r)
held_as None = refused 11
