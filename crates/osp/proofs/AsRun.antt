-- Demand 3 speaks of the C functions as callers run them: what `osp_make` and `osp_deliver` return and leave, as their `ensures` clauses
-- stand in the code, is the packed answer of a call that keeps `Makes` or `Delivers`.
-- Assumes nothing.
use mathlib.Core.Path.{◌≡◌, sym, ap, ◌∙◌}
use Rattle.telegram.specs.Numbers.{outcome_of}
use lib.ListN.{length}
use contract.Lifetimes.{Lfts}
use borrow.Fn.World.{ArgsD, ResD}
use denote.Triple.Clauses.{AtExit}
use Rattle.telegram.specs.declared.Refusal.{Refusal}
use Rattle.std.specs.Prelude.{ℕ, Result}
use Rattle.chain.specs.Calls.{Delivers, Makes}
use Rattle.chain.proofs.Results.{deliver-answer, make-answer}
use Rattle.reader.specs.Interface.{packed}
use Rattle.osp.specs.Interface.{defaults_from}
use Rattle.osp.specs.contracts.chains.osp_deliver as deliver
use Rattle.osp.specs.contracts.chains.osp_make as make
use Rattle.osp.proofs.chains.osp_deliver.Reads as deliver-reads
use Rattle.osp.proofs.chains.osp_make.Reads as make-reads

-- `osp_deliver`, of the record, telegram and room that were lent, and of the record and room as the call left them.
pub osp-deliver-delivers : (κs : Lfts 3) (a : ArgsD deliver.signature κs) (r : ResD deliver.signature κs) (e : AtExit deliver.ended κs)
    → deliver-reads.Learnt κs a r e
    → (d : Result ℕ Refusal) × ((r ≡ packed (outcome_of d))
    × Delivers a.0.now (record { telegram = a.1.0.now; room = a.1.1.0.now }) (record { memory = e.0.now; room = e.1.1.0.now; answer = d }))
osp-deliver-delivers κs a r e h =
    let d = deliver-answer a.0.now a.1.0.now (length a.1.1.0.now) in
    (d.0, (h.0 ∙ sym (ap packed d.1), record { answer = d.1; memory = h.1.0; room = h.1.1 }))

-- `osp_make`, of the memory that was lent, the count and the four default bytes, and of the memory as the call left it.
pub osp-make-makes : (κs : Lfts 1) (a : ArgsD make.signature κs) (r : ResD make.signature κs) (e : AtExit make.ended κs)
    → make-reads.Learnt κs a r e
    → (d : Result ℕ Refusal) × ((r ≡ packed (outcome_of d))
    × Makes a.0.now a.1.0 (defaults_from a.1.1.0 a.1.1.1.0 a.1.1.1.1.0 a.1.1.1.1.1.0) d e.0.now)
osp-make-makes κs a r e h =
    let d = make-answer a.0.now a.1.0 (defaults_from a.1.1.0 a.1.1.1.0 a.1.1.1.1.0 a.1.1.1.1.1.0) in
    (d.0, (h.0 ∙ sym (ap packed d.1), record { answered = d.1; memory = h.1 }))
