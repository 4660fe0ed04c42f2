-- `reader::found::open_state` meets its contract. Assumes nothing.
use Rattle.std.proofs.Common.{◌≡◌, ℕ, List, get_or, sym, ap, ◌∙◌}
use Rattle.telegram.specs.Numbers.{done}
use Rattle.capture.specs.State.{going, State}
use Rattle.reader.specs.Layout.{standing_in, stands_in}
use Rattle.reader.proofs.States.{state-by}
use Rattle.reader.proofs.found.open_state.Goals as goal
use Rattle.reader.proofs.found.open_state.Goals.{Start}

abbrev state : ℕ → ℕ → List ℕ → State
state n p b = record { standing = going; count = n; position = p; bytes = b }

-- byte 0 says that it is open
open_in : (c : Start) → let mem = c.args.mem.now in
    done going ≡ stands_in mem
open_in c =
    let mem = c.args.mem.now in
    ap (λ (p : ℕ). standing_in p (get_or mem 1 0) (get_or mem 10 0) (get_or mem 11 0)) (sym c.requires.1)

pub returns : goal.returns
returns c = (λ i. done (state (c.count_in.ensures i) (c.position_in.ensures i) (c.last_in.ensures i)))
    ∙ state-by _ c.requires.0 (done going) (open_in (goal.at.returns c).Start)
