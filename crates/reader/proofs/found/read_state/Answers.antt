-- `reader::found::read_state` meets its contract. Assumes nothing.
use Rattle.reader.proofs.States.{state-short}
use Rattle.reader.proofs.found.read_state.Goals as goal

pub returns-then-mem-lt21 : goal.returns-then-mem-lt21
returns-then-mem-lt21 c = state-short _ c.if-mem-lt21.true
