-- Request 01 for C callers: what is promised of a run that arrives in chunks is carried to lent memory. These are the statements; the
-- proofs are in reader/proofs.
-- Assumes nothing.
use Rattle.std.specs.Prelude.{◌≡◌, ℕ, ◌≤◌, true, List, [], ◌∷◌, ◌++◌, length, drop, replicate}
use Rattle.telegram.specs.Numbers.{Outcome, refused_for, done, after}
use Rattle.telegram.specs.Telegram.{Bytes}
use Rattle.capture.specs.State.{State, carrying, is_left}
use Rattle.capture.specs.Run.{run, telegrams_in}
use Rattle.capture.specs.Calls.{Reply, Given, answer_of, nexting, Closed, closing, joined}
use Rattle.capture.specs.Uncut.{Taken, Position, AllBytes, Final}
use Rattle.reader.specs.Layout.{reader_size, state_in, holding}
use Rattle.reader.specs.Interface.{Called, written, reader_next, Ended, reader_end, reader_position}

-- All zeros is a fresh reading, whatever stands behind them.
unfoldable pub FreshIsZeros : Type 0
FreshIsZeros = (l : List ℕ) → state_in (replicate reader_size 0 ++ l) ≡ done (carrying [] 0)

-- The state s was kept in memory: it comes back, and the bytes behind it stay.
pub record Back (s : State) (mem : List ℕ) : Type 0 where
  pub state : state_in (holding s mem) ≡ done s
  pub behind : drop reader_size (holding s mem) ≡ drop reader_size mem

-- "A reader over a lent chunk that remembers where it stands": in memory that is long enough, each state that calls take up.
unfoldable pub StateComesBack : Type 0
StateComesBack = (s : State) (mem : List ℕ) → Taken s → Position s.position → reader_size ≤ length mem → Back s mem

-- A state that is kept again where it already lies changes no byte.
unfoldable pub HeldStays : Type 0
HeldStays = (s : State) (mem : List ℕ) → Bytes mem → state_in mem ≡ done s → holding s mem ≡ mem

-- Memory that holds a state which calls take up: it is bytes, it holds the state, and some reading leaves that.
pub record TakenIn (s : State) (mem : List ℕ) : Type 0 where
  pub each : Bytes mem
  pub holds : state_in mem ≡ done s
  pub leaves : is_left s ≡ true

-- So the functions take up a fresh reading.
unfoldable pub FreshIsTaken : Type 0
FreshIsTaken = (l : List ℕ) → Bytes l → TakenIn (carrying [] 0) (replicate reader_size 0 ++ l)

-- What is returned for an answer: a refusal, or done with the bytes that are written for the reply; and where nothing is written.
abbrev pub replied : Outcome Reply → (Reply → List ℕ) → Outcome (List ℕ)
replied o bytes = after o (λ (r : Reply). done (bytes r))

abbrev pub silent : Outcome Reply → Outcome (List ℕ)
silent o = replied o (λ (r : Reply). [])

-- A call of `osp_reader_next` on memory that holds a state came to x, and the call on that state to g: both give the same and move the index
-- alike, and memory holds the state that is left. The bytes behind it stay.
pub record NextInMemory (mem : List ℕ) (g : Given) (x : Called) : Type 0 where
  pub outcome : x.outcome ≡ replied g.answer (λ (r : Reply). written r g.bytes)
  pub at : x.at ≡ g.at
  pub state : TakenIn g.state x.memory
  pub behind : drop reader_size x.memory ≡ drop reader_size mem

-- A call of `osp_reader_end`, so too; nothing is written.
pub record EndInMemory (mem : List ℕ) (c : Closed) (x : Ended) : Type 0 where
  pub outcome : x.outcome ≡ silent c.answer
  pub state : TakenIn c.state x.memory
  pub behind : drop reader_size x.memory ≡ drop reader_size mem

-- The functions on memory that holds s. A room of 12 bytes takes every telegram.
pub record Functions (s : State) (mem : List ℕ) : Type 0 where
  pub next : (c : List ℕ) (at room : ℕ) → Bytes c → 12 ≤ room → NextInMemory mem (nexting c s at) (reader_next mem c at room)
  pub end : EndInMemory mem (closing s) (reader_end mem)
  pub position : reader_position mem ≡ s.position

-- The functions on memory are the calls on the state that it holds. So what capture/specs/Uncut.antt promises of these holds of those.
unfoldable pub AsOnTheState : Type 0
AsOnTheState = (s : State) (mem : List ℕ) → TakenIn s mem → Functions s mem

-- The telegram that a call wrote, if it wrote one: no bytes are none, and a refusal writes nothing.
abbrev pub told_in : Outcome (List ℕ) → List (List ℕ)
told_in (refused_for e) = []
told_in (done []) = []
told_in (done (b ∷ t)) = (b ∷ t) ∷ []

-- A chunk is read by calls of `osp_reader_next`, from an index on, each with the memory and the index that the one before left and with
-- room for every telegram, until one gives no telegram: the telegrams written, and the memory left.
pub data MemoryCalls (c : List ℕ) : List ℕ → ℕ → List (List ℕ) → List ℕ → Type 0 where
  last : {mem : List ℕ} {at : ℕ} (room : ℕ) → 12 ≤ room → told_in (reader_next mem c at room).outcome ≡ []
      → MemoryCalls c mem at [] (reader_next mem c at room).memory
  next : {mem mem' : List ℕ} {at : ℕ} {t : List ℕ} {ts : List (List ℕ)} (room : ℕ) → 12 ≤ room
      → told_in (reader_next mem c at room).outcome ≡ t ∷ []
      → MemoryCalls c (reader_next mem c at room).memory (reader_next mem c at room).at ts mem' → MemoryCalls c mem at (t ∷ ts) mem'

-- Chunks are read one after the other, each from its start, with the memory that the one before left.
pub data MemoryChunks : List (List ℕ) → List ℕ → List (List ℕ) → List ℕ → Type 0 where
  none : {mem : List ℕ} → MemoryChunks [] mem [] mem
  chunk : {c : List ℕ} {cs : List (List ℕ)} {mem mem' mem'' : List ℕ} {ts us : List (List ℕ)} → MemoryCalls c mem 0 ts mem'
      → MemoryChunks cs mem' us mem'' → MemoryChunks (c ∷ cs) mem (ts ++ us) mem''

-- The telegrams ts and the memory mem', which was mem, are those of the bytes l, read uncut from the state s on. The refusal and the
-- position stand in the state; the position is what `osp_reader_position` returns, and `osp_reader_end` returns what the end of the uncut
-- run gives.
pub record AsUncutInMemory (s : State) (l : List ℕ) (ts : List (List ℕ)) (mem mem' : List ℕ) : Type 0 where
  pub telegrams : ts ≡ telegrams_in s l
  pub state : TakenIn (run s l) mem'
  pub behind : drop reader_size mem' ≡ drop reader_size mem
  pub position : reader_position mem' ≡ (run s l).position
  pub end : EndInMemory mem' (closing (run s l)) (reader_end mem')

-- However a run is cut, in memory too its telegrams, the refusal and the position are those of the uncut run.
unfoldable pub EveryCuttingSameInMemory : Type 0
EveryCuttingSameInMemory =
    (cs : List (List ℕ)) (s : State) (mem mem' : List ℕ) (ts : List (List ℕ))
    -- "Our logger hands us bytes in chunks cut anywhere, some empty."
    → AllBytes cs
    -- From memory that holds a fresh reading, or whatever other state calls take up.
    → TakenIn s mem
    -- "A reader over a lent chunk that remembers where it stands and carries an unfinished telegram of up to 11 bytes to the next
    -- chunk": each chunk is read by calls until one gives no telegram, and only memory remembers.
    → MemoryChunks cs mem ts mem'
    → AsUncutInMemory s (joined cs) ts mem mem'

-- Whatever the chunks and the memory, such calls exist: they come to an end, chunk by chunk.
unfoldable pub EveryCuttingHasCallsInMemory : Type 0
EveryCuttingHasCallsInMemory =
    (cs : List (List ℕ)) (s : State) (mem : List ℕ)
    → AllBytes cs
    → TakenIn s mem
    → (ts : List (List ℕ)) × (mem' : List ℕ) × MemoryChunks cs mem ts mem'

-- From this memory on every call, for a chunk or for the end, returns the same, and no byte and no index changes, whatever the room.
pub record RepeatsInMemory (s : State) (mem : List ℕ) : Type 0 where
  pub next : (c : List ℕ) (at room : ℕ)
      → reader_next mem c at room ≡ record { outcome = silent (answer_of s.standing); memory = mem; at = at }
  pub end : reader_end mem ≡ record { outcome = silent (answer_of s.standing); memory = mem }

-- "Calls after an end or a refusal repeat the answer."
unfoldable pub EndAndRefusalRepeatInMemory : Type 0
EndAndRefusalRepeatInMemory = (s : State) (mem : List ℕ) → TakenIn s mem → Final s.standing → RepeatsInMemory s mem
