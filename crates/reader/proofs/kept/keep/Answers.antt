-- `reader::kept::keep` meets its contract. Assumes nothing.
use Rattle.std.proofs.Common.{ℕ, List, ◌++◌, take, ◌∙◌, ap₂}
use Rattle.telegram.specs.Numbers.{front}
use Rattle.reader.proofs.kept.keep.Goals as goal

pub returns : goal.returns
returns c =
    c.write_parts.ensures
    ∙ ap₂ (λ (x y : List ℕ). front (x ++ take 11 y) c.args.mem.now) c.head_of-head.ensures c.kept_bytes-bytes.ensures
