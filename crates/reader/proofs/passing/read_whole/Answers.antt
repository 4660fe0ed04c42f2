-- `reader::passing::read_whole` meets its contract. Assumes nothing.
use Rattle.reader.proofs.passing.read_whole.Goals as goal

pub returns-then-at_rest : goal.returns-then-at_rest
returns-then-at_rest c t e = (c.at_rest.ensures c.if-at_rest.true, c.read_at.ensures t e)
