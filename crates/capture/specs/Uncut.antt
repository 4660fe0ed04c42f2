-- Request 01, "Captures as they arrive": what is promised of a run that arrives in chunks. These are the statements; the proofs
-- are in capture/proofs.
-- Assumes nothing.
use Rattle.std.specs.Prelude.{◌≡◌, ℕ, ◌+◌, ◌<◌, ◌≤◌, true, ◌≢◌, ◌⊎◌, List, [], ◌∷◌, ◌++◌, length, drop}
use Rattle.telegram.specs.Numbers.{Reason, refused_for, refused, done}
use Rattle.telegram.specs.Telegram.{reading, Bytes}
use Rattle.telegram.specs.declared.Telegram.{Telegram}
use Rattle.frame.specs.Frame.{cutting}
use Rattle.capture.specs.State.{Standing, going, ended, stopped_for, stopped, checksums_in, State, carrying, resting, carried_in, is_left}
use Rattle.capture.specs.Run.{wrapped, grown, run, telegrams_in, at_end}
use Rattle.capture.specs.Calls.{Given, without, answer_of, nexting, closed, closing, scanned, scanning, told, Calls, Chunks, joined}

-- A state that calls take up, and do not refuse with 11: twelve bytes stand in it, its checksums are bytes, and some reading leaves it.
pub record Taken (s : State) : Type 0 where
  pub long : length s.bytes ≡ 12
  pub each : Bytes s.bytes
  pub sums : Bytes (checksums_in s.standing)
  pub leaves : is_left s ≡ true

-- Positions are counted modulo 2^64.
abbrev pub Position : ℕ → Type 0
Position p = p < 18446744073709551616

-- Every chunk is bytes.
abbrev pub AllBytes : List (List ℕ) → Type 0
AllBytes [] = Unit {0}
AllBytes (c ∷ cs) = Bytes c × AllBytes cs

-- The telegrams ts and the state s' are those of the bytes l, read uncut from the state s on. The refusal and the position stand in the
-- state.
pub record AsUncut (s : State) (l : List ℕ) (ts : List (List ℕ)) (s' : State) : Type 0 where
  pub telegrams : ts ≡ telegrams_in s l
  pub state : s' ≡ run s l

-- However a run is cut, its telegrams, the refusal and the position are those of the uncut run.
unfoldable pub EveryCuttingSame : Type 0
EveryCuttingSame =
    (cs : List (List ℕ)) (s s' : State) (ts : List (List ℕ))
    -- "Our logger hands us bytes in chunks cut anywhere, some empty."
    → AllBytes cs
    -- From the state of a fresh reading, or from whatever other state calls take up.
    → Taken s
    -- "A reader over a lent chunk that remembers where it stands and carries an unfinished telegram of up to 11 bytes to the next
    -- chunk": each chunk is read by calls until one gives no telegram.
    → Chunks cs s ts s'
    → AsUncut s (joined cs) ts s'

-- So two cuttings of one run are read alike.
unfoldable pub CutTwoWays : Type 0
CutTwoWays =
    (cs ds : List (List ℕ)) (s s' s'' : State) (ts us : List (List ℕ))
    → AllBytes cs
    → AllBytes ds
    → joined cs ≡ joined ds
    → Taken s
    → Chunks cs s ts s'
    → Chunks ds s us s''
    → (ts ≡ us) × (s' ≡ s'')

-- Whatever the chunks and the state, such calls exist: they come to an end, chunk by chunk.
unfoldable pub EveryCuttingHasCalls : Type 0
EveryCuttingHasCalls =
    (cs : List (List ℕ)) (s : State)
    → AllBytes cs
    → Taken s
    → (ts : List (List ℕ)) × (s' : State) × Chunks cs s ts s'

-- A chunk that is read whole at once gives and leaves what the calls on it give and leave.
unfoldable pub ScanIsCalls : Type 0
ScanIsCalls =
    (c : List ℕ) (s s' : State) (ts : List (List ℕ))
    → Bytes c
    → Taken s
    → Calls c s 0 ts s'
    → scanning c s ≡ scanned (length ts) s'

-- No bytes, as in an empty chunk, change nothing: where the chunk has none from the index on, a call gives the answer at which the
-- reading stands.
unfoldable pub NoBytesNothing : Type 0
NoBytesNothing = (c : List ℕ) (s : State) (at : ℕ) → Taken s → length c ≤ at → nexting c s at ≡ without (answer_of s.standing) at s

-- A call g for the next telegram of the chunk c, from the index `at` on: the run of the bytes from there is what the call gave, and then
-- the run of the bytes that it left, from the state that it left. Where it gave none, the run is done with.
pub record OneCall (c : List ℕ) (s : State) (at : ℕ) (g : Given) : Type 0 where
  pub state : run s (drop at c) ≡ run g.state (drop g.at c)
  pub telegrams : telegrams_in s (drop at c) ≡ told g ++ telegrams_in g.state (drop g.at c)
  pub last : told g ≡ [] → AsUncut s (drop at c) [] g.state

-- Reading telegram by telegram, by what all bytes at hand show, is reading byte by byte.
unfoldable pub ByTelegrams : Type 0
ByTelegrams = (c : List ℕ) (s : State) (at : ℕ) → Taken s → OneCall c s at (nexting c s at)

-- The telegram reader accepts each of these.
abbrev pub AllAccepted : List (List ℕ) → Type 0
AllAccepted [] = Unit {0}
AllAccepted (t ∷ ts) = ((x : Telegram) × (reading t ≡ done x)) × AllAccepted ts

-- What is left over of a run: where the reading goes on, the bytes that it carries; where it was stopped, bytes that begin with the
-- telegram which is refused so.
abbrev pub LeftOver : Standing → State → List ℕ → Type 0
LeftOver going s rest = rest ≡ carried_in s
LeftOver ended s rest = ⊥
LeftOver (stopped_for e) s rest = grown (cutting rest) rest s.position ≡ s

-- The telegrams ts and the state s of a run l whose first byte is at position p: the telegram reader accepts every telegram, joined they
-- are the run's bytes up to what is left over, and the position is that of the first byte which is left over.
pub record Accounted (p : ℕ) (l : List ℕ) (ts : List (List ℕ)) (s : State) : Type 0 where
  pub accepted : AllAccepted ts
  pub rest : List ℕ
  pub bytes : joined ts ++ rest ≡ l
  pub position : s.position ≡ wrapped (p + length (joined ts))
  pub stands : LeftOver s.standing s rest

-- "Reading stops at the first refused telegram": what stands before it are telegrams that the telegram reader accepts; "the position
-- reported is that telegram's first byte, modulo 2^64".
unfoldable pub AcceptedByReader : Type 0
AcceptedByReader = (p : ℕ) (l : List ℕ) → Position p → Accounted p l (telegrams_in (carrying [] p) l) (run (carrying [] p) l)

-- The other way round: telegrams that the telegram reader accepts, one behind the other, are the telegrams of the run, and it goes on
-- behind them.
unfoldable pub AcceptedAreGiven : Type 0
AcceptedAreGiven =
    (ts : List (List ℕ)) (p : ℕ) (l : List ℕ)
    → Position p
    → AllAccepted ts
    → (run (carrying [] p) (joined ts ++ l) ≡ run (carrying [] (wrapped (p + length (joined ts)))) l)
    × (telegrams_in (carrying [] p) (joined ts ++ l) ≡ ts ++ telegrams_in (carrying [] (wrapped (p + length (joined ts)))) l)

-- What the end of an open reading gives and leaves, by the bytes that are left over.
pub record Ends (s : State) : Type 0 where
  pub few : s.count ≤ 11
  pub none : s.count ≡ 0 → closing s ≡ closed (resting ended s.position)
  pub short : 1 ≤ s.count → s.count < 4 → closing s ≡ closed (resting (stopped 1) s.position)
  pub long : 4 ≤ s.count → closing s ≡ closed (resting (stopped 4) s.position)

-- "When we say the run has ended, leftover bytes give 1 if fewer than 4, else 4; with none left over the run is done."
unfoldable pub EndOfOpen : Type 0
EndOfOpen = (s : State) → is_left s ≡ true → s.standing ≡ going → Ends s

-- 1 and 4 come only from the end: bytes are refused with 2, 3 or 5.
unfoldable pub RefusalsOfBytes : Type 0
RefusalsOfBytes =
    (s : State) (l : List ℕ) (e : Reason)
    → s.standing ≡ going
    → (run s l).standing ≡ stopped_for e
    → (e.number ≡ 2) ⊎ ((e.number ≡ 3) ⊎ (e.number ≡ 5))

-- A reading that has ended, or was stopped.
abbrev pub Final : Standing → Type 0
Final going = ⊥
Final ended = Unit {0}
Final (stopped_for e) = Unit {0}

-- From this state on every call, for a chunk or for the end, gives the same answer, and nothing changes.
pub record Repeats (s : State) : Type 0 where
  pub next : (c : List ℕ) (at : ℕ) → nexting c s at ≡ without (answer_of s.standing) at s
  pub closing : closing s ≡ closed s
  pub scanning : (c : List ℕ) → scanning c s ≡ scanned 0 s
  pub bytes : (l : List ℕ) → AsUncut s l [] s

-- "Calls after an end or a refusal repeat the answer." So an end never turns a 5 into a 4.
unfoldable pub EndAndRefusalRepeat : Type 0
EndAndRefusalRepeat = (s : State) → is_left s ≡ true → Final s.standing → Repeats s

-- A call that refuses leaves the reading stopped for that reason, and the end leaves it ended or stopped, with the answer that it gave.
pub record Stays (s : State) : Type 0 where
  pub next : (c : List ℕ) (at : ℕ) (e : Reason) → (nexting c s at).answer ≡ refused_for e → (nexting c s at).state.standing ≡ stopped_for e
  pub over : Final (closing s).state.standing
  pub answer : (closing s).answer ≡ answer_of (closing s).state.standing

-- "Reading stops at the first refused telegram and stays stopped": what is repeated is the answer that was given.
unfoldable pub EndAndRefusalStay : Type 0
EndAndRefusalStay = (s : State) → is_left s ≡ true → Stays s

-- What bytes, the end and every call leave of a state.
pub record Leaves (s : State) : Type 0 where
  pub bytes : (l : List ℕ) → Bytes l → Taken (run s l)
  pub end : Taken (at_end s)
  pub next : (c : List ℕ) (at : ℕ) → Bytes c → Taken (nexting c s at).state
  pub closing : Taken (closing s).state
  pub scanning : (c : List ℕ) → Bytes c → Taken (scanning c s).state

-- A reading leaves only states that calls take up again.
unfoldable pub LeavesTaken : Type 0
LeavesTaken = (s : State) → Taken s → Leaves s

-- A reading leaves this state: a fresh one that read some bytes, or that read them and was then told that the run has ended.
abbrev pub LeftBySome : State → Type 0
LeftBySome s = (l : List ℕ) × Bytes l × ((run (carrying [] 0) l ≡ s) ⊎ (at_end (run (carrying [] 0) l) ≡ s))

-- Each state that calls take up is left by a reading ..
unfoldable pub TakenIsLeft : Type 0
TakenIsLeft = (s : State) → Taken s → Position s.position → LeftBySome s

-- .. and each that a reading leaves is taken up.
unfoldable pub LeftIsTaken : Type 0
LeftIsTaken = (s : State) → LeftBySome s → Taken s

-- Every call refuses the state with 11 and leaves it as it was.
pub record Eleven (s : State) : Type 0 where
  pub next : (c : List ℕ) (at : ℕ) → nexting c s at ≡ without (refused 11) at s
  pub closing : closing s ≡ record { answer = refused 11; state = s }
  pub scanning : (c : List ℕ) → scanning c s ≡ record { answer = refused 11; telegrams = 0; position = 0; state = s }

-- No call refuses the state with 11.
pub record NeverEleven (s : State) : Type 0 where
  pub next : (c : List ℕ) (at : ℕ) (e : Reason) → Bytes c → (nexting c s at).answer ≡ refused_for e → e.number ≢ 11
  pub closing : (e : Reason) → (closing s).answer ≡ refused_for e → e.number ≢ 11
  pub scanning : (c : List ℕ) (e : Reason) → Bytes c → (scanning c s).answer ≡ refused_for e → e.number ≢ 11

-- So 11 is exact, of every value that a state's fields can have.
unfoldable pub ElevenExact : Type 0
ElevenExact =
    (s : State)
    → length s.bytes ≡ 12
    → Bytes s.bytes
    → Bytes (checksums_in s.standing)
    → Position s.position
    -- "A state that no reading leaves gives 11", and only such a state does.
    → ((LeftBySome s → ⊥) → Eleven s) × (LeftBySome s → NeverEleven s)
