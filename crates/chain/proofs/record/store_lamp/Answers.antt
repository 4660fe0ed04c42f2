-- `chain::record::store_lamp` meets its contract.
-- Assumes nothing.
use mathlib.Core.Path.{◌∙◌, ap}
use Prim.Native.Nat.{ℕ}
use Rattle.telegram.proofs.Front.{overwritten}
use Rattle.chain.proofs.Slots.{put-lamp}
use Rattle.chain.proofs.record.store_lamp.Goals as goal

pub returns : goal.returns
returns c = let a = c.args in
    c.put_bytes.ensures
    ∙ ap (λ (i : ℕ). overwritten a.mem.now i c.slot_of.result) c.slot_at.ensures
    ∙ put-lamp a.mem.now a.p.0 a.l c.slot_of.ensures
