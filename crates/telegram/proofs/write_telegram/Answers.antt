-- `telegram::write_telegram` meets its contract: each call makes the front longer. Assumes nothing.
use native.Mathlib.Omega.{arith}
use Rattle.telegram.proofs.Front.{written}
use Rattle.telegram.proofs.write_telegram.Goals as goal

pub returns : goal.returns
returns c = let a = c.args in
    written a.a a.c c.index_of-index.result a.payload.now a.out.now c.index_of-index.ensures.0 (omega arith)
    c.write_header.ensures
    c.put_at.ensures
    c.seal.ensures
