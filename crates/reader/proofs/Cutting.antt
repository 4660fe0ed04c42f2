-- However a run is cut, in memory too its telegrams and the state that it leaves are those of the uncut run; and such calls exist.
-- Assumes nothing.
use Rattle.std.proofs.Common.{◌≡◌, ℕ, List, drop, sym, refl, ◌∙◌, subst, arith}
use Rattle.telegram.specs.Telegram.{Bytes}
use Rattle.capture.specs.State.{State}
use Rattle.capture.specs.Calls.{nexting, Calls, Chunks}
use Rattle.capture.specs.Uncut.{AllBytes, EveryCuttingSame, EveryCuttingHasCalls}
use Rattle.capture.proofs.Cutting.{cut-same, cut-has-calls}
use Rattle.reader.specs.Interface.{reader_next}
use Rattle.reader.specs.Kept.{TakenIn, AsOnTheState, MemoryCalls, MemoryChunks, EveryCuttingSameInMemory, EveryCuttingHasCallsInMemory}
use Rattle.reader.proofs.Holding.{held-taken}
use Rattle.reader.proofs.InMemory.{as-on-the-state, told_in_lem}

-- The calls on memory are calls on the states that it holds, on a chunk ..
record OnStates (mem mem' : List ℕ) (P : State → Type 0) : Type 0 where
  left : State
  calls : P left
  state : TakenIn left mem'
  behind : drop 21 mem' ≡ drop 21 mem

calls-on : {c mem mem' : List ℕ} {at : ℕ} {ts : List (List ℕ)} → MemoryCalls c mem at ts mem' → (s : State) → TakenIn s mem → Bytes c
    → OnStates mem mem' (Calls c s at ts)
unfolding AsOnTheState
calls-on {c} {mem} {at = at} (MemoryCalls.last room h e) s k y =
    let w = (as-on-the-state s mem k).next c at room y h in
    record {
      left = (nexting c s at).state;
      calls = Calls.last (sym (told_in_lem s mem k c at room y h) ∙ e);
      state = w.state;
      behind = w.behind;
    }
calls-on {c} {mem} {at = at} (MemoryCalls.next {ts = us} room h e m) s k y =
    let w = (as-on-the-state s mem k).next c at room y h in
    let r = calls-on m (nexting c s at).state w.state y in
    record {
      left = r.left;
      calls =
          Calls.next (sym (told_in_lem s mem k c at room y h) ∙ e)
          (subst (λ (i : ℕ). Calls c (nexting c s at).state i us r.left) w.at r.calls);
      state = r.state;
      behind = r.behind ∙ w.behind;
    }

-- .. and on chunks one after the other.
chunks-on : {cs : List (List ℕ)} {mem mem' : List ℕ} {ts : List (List ℕ)} → MemoryChunks cs mem ts mem' → (s : State) → TakenIn s mem
    → AllBytes cs → OnStates mem mem' (Chunks cs s ts)
chunks-on MemoryChunks.none s k y = record { left = s; calls = Chunks.none; state = k; behind = refl }
chunks-on (MemoryChunks.chunk a b) s k y =
    let v = calls-on a s k y.0 in
    let w = chunks-on b v.left v.state y.1 in
    record { left = w.left; calls = Chunks.chunk v.calls w.calls; state = w.state; behind = w.behind ∙ v.behind }

-- However a run is cut.
pub cut-same-in-memory : EveryCuttingSameInMemory
unfolding EveryCuttingSameInMemory EveryCuttingSame AsOnTheState
cut-same-in-memory cs s mem mem' ts y k m =
    let w = chunks-on m s k y in
    let u = cut-same cs s w.left ts y (held-taken s mem k) w.calls in
    let z = subst (λ (x : State). TakenIn x mem') u.state w.state in
    let f = as-on-the-state _ mem' z in
    record { telegrams = u.telegrams; state = z; behind = w.behind; position = f.position; end = f.end }

-- The other way round: calls on states are made on memory that holds them, with a room of twelve bytes.
abbrev Made : State → (List ℕ → Type 0) → Type 0
Made s P = (mem' : List ℕ) × P mem' × TakenIn s mem'

calls-made : {c : List ℕ} {s s' : State} {at : ℕ} {ts : List (List ℕ)} → Calls c s at ts s' → (mem : List ℕ) → TakenIn s mem → Bytes c
    → Made s' (MemoryCalls c mem at ts)
unfolding AsOnTheState
calls-made {c} {s} {at = at} (Calls.last e) mem k y =
    let w = (as-on-the-state s mem k).next c at 12 y (omega arith) in
    ((reader_next mem c at 12).memory, MemoryCalls.last 12 (omega arith) (told_in_lem s mem k c at 12 y (omega arith) ∙ e), w.state)
calls-made {c} {s} {at = at} (Calls.next {ts = us} e m) mem k y =
    let x = reader_next mem c at 12 in
    let w = (as-on-the-state s mem k).next c at 12 y (omega arith) in
    let r = calls-made m x.memory w.state y in (
      r.0,
      MemoryCalls.next 12 (omega arith) (told_in_lem s mem k c at 12 y (omega arith) ∙ e)
          (subst (λ (i : ℕ). MemoryCalls c x.memory i us r.0) (sym w.at) r.1),
      r.2,
    )

chunks-made : {cs : List (List ℕ)} {s s' : State} {ts : List (List ℕ)} → Chunks cs s ts s' → (mem : List ℕ) → TakenIn s mem → AllBytes cs
    → Made s' (MemoryChunks cs mem ts)
chunks-made Chunks.none mem k y = (mem, MemoryChunks.none, k)
chunks-made (Chunks.chunk a b) mem k y =
    let v = calls-made a mem k y.0 in
    let w = chunks-made b v.0 v.2 y.1 in
    (w.0, MemoryChunks.chunk v.1 w.1, w.2)

-- Whatever the chunks and the memory, such calls exist.
pub cut-has-calls-in-memory : EveryCuttingHasCallsInMemory
unfolding EveryCuttingHasCallsInMemory EveryCuttingHasCalls
cut-has-calls-in-memory cs s mem y k =
    let v = cut-has-calls cs s y (held-taken s mem k) in
    let w = chunks-made v.2 mem k y in
    (v.0, w.0, w.1)
