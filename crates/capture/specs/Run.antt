-- Request 01, "Captures as they arrive": the run of a capture, byte by byte. However it is cut, this is what its bytes give.
-- Assumes nothing.
use Rattle.std.specs.Prelude.{ℕ, ◌+◌, ◌%◌, cond, List, [], ◌∷◌, ◌++◌, take, ◌==◌, nat_lt}
use Rattle.telegram.specs.Numbers.{Outcome, refused_for, done}
use Rattle.telegram.specs.Telegram.{reading}
use Rattle.telegram.specs.declared.Telegram.{Telegram}
use Rattle.frame.specs.Frame.{Cutting, incomplete, broken, whole, cutting}
use Rattle.capture.specs.State.{Standing, going, ended, stopped_for, stopped, State, carrying, resting, carried_in}

-- Positions are counted modulo 2^64.
abbrev pub wrapped : ℕ → ℕ
wrapped p = p % 18446744073709551616

-- A whole telegram of k bytes at position p: where the telegram reader accepts it, reading goes on behind it; where it refuses it (the
-- checksum), reading stops at its first byte.
abbrev pub judged : Outcome Telegram → ℕ → ℕ → State
judged (done t) k p = carrying [] (wrapped (p + k))
judged (refused_for e) k p = resting (stopped_for e) p

-- What the bytes c from a telegram's first on, which is at position p, make of the reading: an unfinished telegram is carried, a refusal
-- stops it.
abbrev pub grown : Cutting → List ℕ → ℕ → State
grown incomplete c p = carrying c p
grown (broken n) c p = resting (stopped n) p
grown (whole k) c p = judged (reading (take k c)) k p

-- One byte more. Reading that has ended, or was stopped, stays so.
abbrev pub fed_by : Standing → State → ℕ → State
fed_by going s b = grown (cutting (carried_in s ++ b ∷ [])) (carried_in s ++ b ∷ []) s.position
fed_by ended s b = s
fed_by (stopped_for e) s b = s

abbrev pub fed : State → ℕ → State
fed s b = fed_by s.standing s b

-- The telegram that these bytes are, where the telegram reader accepts it.
abbrev pub accepted_by : Outcome Telegram → List ℕ → List (List ℕ)
accepted_by (done t) c = c ∷ []
accepted_by (refused_for e) c = []

-- The telegram that the bytes c from its first on complete, if they do.
abbrev pub completed_by : Cutting → List ℕ → List (List ℕ)
completed_by incomplete c = []
completed_by (broken n) c = []
completed_by (whole k) c = accepted_by (reading (take k c)) (take k c)

-- The telegram that one byte more completes, if it does.
abbrev pub given_by : Standing → State → ℕ → List (List ℕ)
given_by going s b = completed_by (cutting (carried_in s ++ b ∷ [])) (carried_in s ++ b ∷ [])
given_by ended s b = []
given_by (stopped_for e) s b = []

abbrev pub given : State → ℕ → List (List ℕ)
given s b = given_by s.standing s b

-- The state after a list of bytes ..
abbrev pub run : State → List ℕ → State
run s [] = s
run s (b ∷ l) = run (fed s b) l

-- .. and the telegrams that were completed on the way.
abbrev pub telegrams_in : State → List ℕ → List (List ℕ)
telegrams_in s [] = []
telegrams_in s (b ∷ l) = given s b ++ telegrams_in (fed s b) l

-- At the end of the run: leftover bytes give 1 if fewer than 4, else 4; with none left over the run is done.
abbrev pub left_over : ℕ → Standing
left_over n = cond (n == 0) ended (cond (nat_lt n 4) (stopped 1) (stopped 4))

-- The end of the run. After an end or a refusal nothing changes.
abbrev pub ended_by : Standing → State → State
ended_by going s = resting (left_over s.count) s.position
ended_by ended s = s
ended_by (stopped_for e) s = s

abbrev pub at_end : State → State
at_end s = ended_by s.standing s
