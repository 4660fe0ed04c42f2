-- Request 03, "Say which checksum", of the reader over lent memory. The statement; the proof is in reader/proofs/Carrying.antt.
-- Assumes nothing.
use Rattle.std.specs.Prelude.{ℕ, List}
use Rattle.telegram.specs.Carried.{Carried}
use Rattle.reader.specs.Interface.{reader_next, reader_end}

-- With 5 two checksums that differ, with any other number nothing: both functions, on any memory.
pub record ReaderCarries : Type 0 where
  pub next : (mem chunk : List ℕ) (at room : ℕ) → Carried (reader_next mem chunk at room).outcome
  pub end : (mem : List ℕ) → Carried (reader_end mem).outcome
