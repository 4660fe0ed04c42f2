-- What the contracts of private functions cite: memory that holds an open reading which carries nothing.
-- Assumes nothing.
use Rattle.std.specs.Prelude.{◌≡◌, ℕ, ◌≤◌, true, List, length, take, drop, slice_index_or}
use Rattle.capture.specs.State.{zeros}
use Rattle.reader.specs.Layout.{reader_size}

-- Long enough, bytes 0 and 1 are 0, and so are bytes 10 to 20.
pub record AtRest (mem : List ℕ) : Type 0 where
  pub long : reader_size ≤ length mem
  pub phase : slice_index_or mem 0 0 ≡ 0
  pub none : slice_index_or mem 1 0 ≡ 0
  pub clear : zeros (take 11 (drop 10 mem)) ≡ true
