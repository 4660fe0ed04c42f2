-- Request 03, "Say which checksum", of a run that arrives in chunks. These are the statements; the proofs are in
-- capture/proofs/Carrying.antt.
-- Assumes nothing.
use Rattle.std.specs.Prelude.{◌≡◌, ℕ, true, List, ◌++◌, take, drop}
use Rattle.telegram.specs.Numbers.{Reason, refused_for}
use Rattle.telegram.specs.Telegram.{reading}
use Rattle.telegram.specs.Carried.{Carried}
use Rattle.frame.specs.Frame.{whole, cutting}
use Rattle.capture.specs.State.{going, stopped_for, State, resting, carried_in, is_left}
use Rattle.capture.specs.Calls.{without, nexting, closing, scanning}

-- "Chunk reading passes both on": where the reader refuses a telegram that is whole, the call gives that refusal, and the reading stays
-- stopped for it. (`EndAndRefusalRepeat` in Uncut.antt: every later call repeats it.)
unfoldable pub ChunksPassOn : Type 0
ChunksPassOn =
    (c : List ℕ) (s : State) (at k : ℕ) (e : Reason)
    → is_left s ≡ true
    → s.standing ≡ going
    → cutting (carried_in s ++ drop at c) ≡ whole k
    → reading (take k (carried_in s ++ drop at c)) ≡ refused_for e
    → nexting c s at ≡ without (refused_for e) at (resting (stopped_for e) s.position)

-- With 5 two checksums that differ, with any other number nothing: every call, on every state.
pub record ChunksCarry : Type 0 where
  pub next : (c : List ℕ) (s : State) (at : ℕ) → Carried (nexting c s at).answer
  pub closing : (s : State) → Carried (closing s).answer
  pub scanning : (c : List ℕ) (s : State) → Carried (scanning c s).answer
