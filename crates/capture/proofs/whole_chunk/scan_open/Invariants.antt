-- `capture::whole_chunk::scan_open` meets its contract: what was counted, with the telegrams in the bytes left, are those of the chunk,
-- and the bytes left lead to the same state. Assumes nothing.
use Rattle.std.proofs.Common.{◌≡◌, ℕ, ◌+◌, ◌≤◌, true, List, length}
use Rattle.std.specs.Slice.Iter.{iter_rest}
use Rattle.capture.specs.declared.Reading.{Reading}
use Rattle.capture.specs.State.{going, standing_of, state_of, is_left}
use Rattle.capture.specs.Run.{run, telegrams_in}
use Rattle.capture.proofs.whole_chunk.scan_open.Given as goal

-- what both loops keep, where n telegrams were counted and the bytes l are left
abbrev Keeps : List ℕ → Reading → Reading → ℕ → List ℕ → Type 0
Keeps chunk carried s n l =
    (is_left (state_of s) ≡ true) × (standing_of s.phase ≡ going) × (n + length l ≤ length chunk)
    × (n + length (telegrams_in (state_of s) l) ≡ length (telegrams_in (state_of carried) chunk))
    × (run (state_of s) l ≡ run (state_of carried) chunk)

abbrev pub invariant-loop-b : goal.invariant-loop-b
invariant-loop-b l = Keeps l.chunk l.fn.carried l.s l.n (iter_rest l.bytes) × (length (iter_rest l.bytes) ≤ length (iter_rest l.initial.bytes))

abbrev pub invariant-telegrams : goal.invariant-telegrams
invariant-telegrams l = Keeps l.chunk l.fn.carried l.s l.n (iter_rest l.bytes)

abbrev pub decreases-telegrams : goal.decreases-telegrams
decreases-telegrams l = length (iter_rest l.bytes)
