-- Request 01, "Captures as they arrive": what a reading remembers from one chunk to the next, and which states no reading leaves.
-- Assumes nothing.
use Rattle.std.specs.Prelude.{ℕ, ◌-◌, Bool, true, false, not, ◌&&◌, List, [], ◌∷◌, ◌++◌, length, take, drop, replicate, ◌==◌, nat_le}
use Rattle.telegram.specs.Numbers.{Reason, bare, reason_of}
use Rattle.frame.specs.Frame.{Cutting, incomplete, broken, whole, cutting}
use Rattle.capture.specs.declared.Phase.{Phase}
use Rattle.capture.specs.declared.Phase.TheVariants.{Open, Ended, Stopped}
use Rattle.capture.specs.declared.Reading.{Reading}

-- Whether a reading goes on: it goes on, the run has ended, or it was stopped by a refusal for this reason.
pub data Standing : Type 0 where
  going : Standing
  ended : Standing
  stopped_for : Reason → Standing

-- Stopped by a refusal that is its number alone.
abbrev pub stopped : ℕ → Standing
stopped n = stopped_for (bare n)

-- The code's phase in these terms.
abbrev pub standing_of : Phase → Standing
standing_of Open = going
standing_of Ended = ended
standing_of (Stopped e) = stopped_for (reason_of e)

-- The checksums that a reading holds: both, where 5 stopped it.
abbrev pub checksums_in : Standing → List ℕ
checksums_in going = []
checksums_in ended = []
checksums_in (stopped_for e) = e.carries

-- What is remembered: the first `count` of twelve bytes are those of an unfinished telegram; `position` is that of the first byte which
-- belongs to no telegram given so far, so of a refused telegram's first byte.
pub record State : Type 0 where
  pub standing : Standing
  pub count : ℕ
  pub position : ℕ
  pub bytes : List ℕ

-- The code's struct in these terms.
abbrev pub state_of : Reading → State
state_of r = record { standing = standing_of r.phase; count = r.count; position = r.position; bytes = r.bytes }

-- Bytes with zeros behind them, up to the twelve that a telegram has at most.
abbrev pub padded : List ℕ → List ℕ
padded c = c ++ replicate (12 - length c) 0

-- An open reading that carries the bytes c of an unfinished telegram, which begins at position p.
abbrev pub carrying : List ℕ → ℕ → State
carrying c p = record { standing = going; count = length c; position = p; bytes = padded c }

-- A reading that carries nothing.
abbrev pub resting : Standing → ℕ → State
resting k p = record { standing = k; count = 0; position = p; bytes = padded [] }

-- The bytes that are carried.
abbrev pub carried_in : State → List ℕ
carried_in s = take s.count s.bytes

-- Every byte is zero.
abbrev pub zeros : List ℕ → Bool
zeros [] = true
zeros (b ∷ l) = b == 0 && zeros l

-- Bytes begin a telegram that is neither refused nor whole.
abbrev pub is_incomplete : Cutting → Bool
is_incomplete incomplete = true
is_incomplete (broken n) = false
is_incomplete (whole k) = false

-- What stops a reading, by its number and what it carries: 1 to 4, which carry nothing, or 5 with two checksums that differ.
abbrev pub stops_with : ℕ → List ℕ → Bool
stops_with n [] = nat_le 1 n && nat_le n 4
stops_with n (c ∷ []) = false
stops_with n (c ∷ r ∷ []) = n == 5 && not (c == r)
stops_with n (c ∷ r ∷ x ∷ l) = false

-- The same of a reason.
abbrev pub stops : Reason → Bool
stops e = stops_with e.number e.carries

-- By how a reading stands: an open one carries an unfinished telegram or nothing, one that ended or was stopped carries nothing.
abbrev pub left_by : Standing → State → Bool
left_by going s = is_incomplete (cutting (carried_in s))
left_by ended s = s.count == 0
left_by (stopped_for e) s = s.count == 0 && stops e

-- Whether some reading leaves this state: up to 11 bytes are carried, zeros stand behind them, and they are as above. Every position can be
-- reached, so it is not looked at.
unfoldable pub is_left : State → Bool
is_left s = nat_le s.count 11 && (zeros (drop s.count s.bytes) && left_by s.standing s)
