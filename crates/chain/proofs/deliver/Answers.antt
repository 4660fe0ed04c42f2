-- `chain::deliver` meets its contract: 9, 11, then what the lamps do with the telegram.
-- Assumes nothing.
use mathlib.Core.Path.{◌≡◌, ◌∙◌, ap, refl, subst}
use mathlib.Core.List.{List, ◌++◌}
use Prim.Native.Nat.{ℕ}
use lib.ListN.{length, drop}
use Rattle.telegram.specs.Numbers.{refused, done}
use Rattle.chain.specs.Record.{chain_in, decode}
use Rattle.chain.specs.Memory.{Left}
use Rattle.chain.proofs.Lengths.{Short, short-delivered, left-front}
use Rattle.chain.proofs.Exits.{chain-yes, chain-no}
use Rattle.chain.proofs.Delivering.{deliver-room, deliver-invalid, deliver-walks, left_as}
use Rattle.chain.proofs.deliver.Goals as goal
use Rattle.chain.proofs.deliver.Goals.{Else-not-is_valid}

-- past the second test memory holds a chain
holds : (c : Else-not-is_valid) → let mem = c.args.mem.now in
    chain_in mem ≡ done (decode mem)
holds c = chain-yes _ c.is_valid.result c.is_valid.ensures c.if-not-is_valid.false

pub returns-in_default : goal.returns-in_default
returns-in_default c = left_as _ (deliver-room _ _ _ c.in_default.ensures.cases) refl refl refl

pub returns-then-not-is_valid : goal.returns-then-not-is_valid
returns-then-not-is_valid c =
    let r = c.args.room.now in
    let h = c.in-Some.ensures.cases in
    left_as r (deliver-invalid _ _ _ h.enough (chain-no _ c.is_valid.result c.is_valid.ensures c.if-not-is_valid.true)) refl refl
    (left-front (refused 11) r _ tt h.enough h.same)

pub deliver_valid-requires : goal.deliver_valid-requires
deliver_valid-requires c = holds (goal.at.deliver_valid-requires c).Else-not-is_valid

pub returns : goal.returns
returns c =
    let a = c.args in
    let r = a.room.now in
    let h = c.in-Some.ensures.cases in
    let e = c.deliver_valid.ensures in
    let w = deliver-walks a.mem.now a.telegram.now (length r) h.enough (holds (goal.at.returns c).Else-not-is_valid) in
    let short = subst (λ (l : Left). Short l.outcome) w (short-delivered a.mem.now a.telegram.now (length r)) in
    left_as r w e.answer e.memory (ap (λ (o : List ℕ). o ++ drop 12 r) e.room ∙ left-front _ r _ short h.enough h.same)
