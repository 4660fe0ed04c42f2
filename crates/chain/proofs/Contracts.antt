-- Demand 3 speaks of the program's own contracts: what every caller of `deliver` and of `make` learns, as their `ensures` clauses stand
-- in the code, is what `Delivers` and `Makes` say.
-- Assumes nothing.
use contract.Lifetimes.{Lfts}
use borrow.Fn.World.{ArgsD, ResD}
use denote.Triple.Clauses.{AtExit}
use Rattle.chain.specs.Calls.{Delivers, Makes}
use Rattle.chain.specs.contracts.deliver as deliver
use Rattle.chain.specs.contracts.make as make
use Rattle.chain.proofs.deliver.Reads as deliver-reads
use Rattle.chain.proofs.make.Reads as make-reads

-- `Delivers`, of the memory, telegram and room that were lent, and of the memory and room as the call left them.
pub deliver-delivers : (κs : Lfts 3) (a : ArgsD deliver.signature κs) (r : ResD deliver.signature κs) (e : AtExit deliver.ended κs)
    → deliver-reads.Learnt κs a r e
    → Delivers a.0.now (record { telegram = a.1.0.now; room = a.1.1.0.now }) (record { memory = e.0.now; room = e.1.1.0.now; answer = r })
deliver-delivers κs a r e h = record { answer = h.0; memory = h.1.0; room = h.1.1 }

-- `Makes`, of the memory that was lent, the count and the defaults, and of the memory as the call left it.
pub make-makes : (κs : Lfts 1) (a : ArgsD make.signature κs) (r : ResD make.signature κs) (e : AtExit make.ended κs)
    → make-reads.Learnt κs a r e → Makes a.0.now a.1.0 a.1.1.0 r e.0.now
make-makes κs a r e h = record { answered = h.0; memory = h.1 }
