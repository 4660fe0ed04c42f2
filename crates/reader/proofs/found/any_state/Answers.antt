-- `reader::found::any_state` meets its contract: each part of the state is read where it lies. Assumes nothing.
use Rattle.std.proofs.Common.{ℕ, List, sym, ap, ◌∙◌, arith}
use Rattle.telegram.specs.Numbers.{refused, done}
use Rattle.capture.specs.State.{Standing, standing_of, State}
use Rattle.reader.specs.Layout.{begun_as}
use Rattle.reader.proofs.States.{state-by}
use Rattle.reader.proofs.found.any_state.Goals as goal

abbrev state : Standing → ℕ → ℕ → List ℕ → State
state k n p b = record { standing = k; count = n; position = p; bytes = b }

pub returns-in_err-phase : goal.returns-in_err-phase
returns-in_err-phase c = rw c.from_residual.ensures (state-by _ (omega arith) (refused 11) (sym (ap begun_as c.in_err-phase.was) ∙ c.standing_in.ensures))

pub returns : goal.returns
returns c =
    let k = standing_of c.in_ok-phase.phase in
    (λ i. done (state k (c.count_in.ensures i) (c.position_in.ensures i) (c.carried_in.ensures i)))
    ∙ state-by _ (omega arith) (done k) (sym (ap begun_as c.in_ok-phase.was) ∙ c.standing_in.ensures)
