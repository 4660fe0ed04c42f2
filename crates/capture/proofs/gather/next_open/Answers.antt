-- `capture::gather::next_open` meets its contract: no byte is left in the chunk, or twelve decide. Assumes nothing.
use Rattle.std.proofs.Common.{◌≡◌, ℕ, ◌≤◌, List, length, sym, ap, ◌∙◌, drop_of_length-le, rules}
use Rattle.capture.specs.State.{going, state_of}
use Rattle.capture.specs.Calls.{next_by}
use Rattle.capture.proofs.Feeding.{next-none}
use Rattle.capture.proofs.gather.next_open.Goals as goal
use Rattle.capture.proofs.gather.next_open.Goals.{Start}

long : (c : Start) → length c.args.carried.bytes ≡ 12
long c = search rules

pub returns-then-chunk-at : goal.returns-then-chunk-at
returns-then-chunk-at c = let h : length c.args.chunk.now ≤ c.args.at = c.if-chunk-at.true in
    let s = state_of c.args.carried in
    c.bare.ensures ∙ next-none s c.args.at (long (goal.at.returns-then-chunk-at c).Start) c.requires.0 c.requires.1
    ∙ ap (λ (l : List ℕ). next_by going l s c.args.at) (sym (drop_of_length-le _ h))
