-- `chain::sense` meets its contract: each test is one line of `sensed_in`.
-- Assumes nothing.
use mathlib.Core.Path.{◌∙◌, ◌≡◌}
use native.Mathlib.Omega.{arith}
use Rattle.telegram.specs.Numbers.{done}
use Rattle.chain.specs.Record.{chain_in, decode}
use Rattle.chain.proofs.Validity.{Valid, chain-in}
use Rattle.chain.proofs.Records.{hold-set}
use Rattle.chain.proofs.Exits.{chain-yes, chain-no, held-refused, held-done, sense-invalid, sense-nowhere, sense-range, sense-done}
use borrow.Author.Rules.{rules}
use Rattle.chain.proofs.sense.Goals as goal
use Rattle.chain.proofs.sense.Goals.{Else-not-is_valid}

-- past the first test memory holds a chain
holds : (c : Else-not-is_valid) → let mem = c.args.mem.now in
    chain_in mem ≡ done (decode mem)
holds c = chain-yes _ c.is_valid.result c.is_valid.ensures c.if-not-is_valid.false

valid : (c : Else-not-is_valid) → let mem = c.args.mem.now in
    Valid mem (decode mem)
valid c = chain-in _ _ (holds c)

pub returns-then-not-is_valid : goal.returns-then-not-is_valid
returns-then-not-is_valid c = held-refused _ _ (sense-invalid _ _ _ _ (chain-no _ c.is_valid.result c.is_valid.ensures c.if-not-is_valid.true))

pub count_of-requires : goal.count_of-requires
count_of-requires c = omega (arith, (valid (goal.at.count_of-requires c).Else-not-is_valid).room)

pub returns-then-count_of-place : goal.returns-then-count_of-place
returns-then-count_of-place c = held-refused _ _ (sense-nowhere _ _ _ _ (holds (goal.at.returns-then-count_of-place c).Else-not-is_valid) (omega (arith, c.count_of.ensures, c.if-count_of-place.true)))

pub returns-then-faults-gt7 : goal.returns-then-faults-gt7
returns-then-faults-gt7 c = held-refused _ _ (sense-range _ _ _ _ (holds (goal.at.returns-then-faults-gt7 c).Else-not-is_valid) (omega (arith, c.count_of.ensures, c.if-count_of-place.false)) (omega arith))

pub sense_one-requires : goal.sense_one-requires
sense_one-requires c = omega (arith, (valid (goal.at.sense_one-requires c).Else-not-is_valid).room, c.count_of.ensures, c.if-count_of-place.false)

pub returns : goal.returns
returns c = let a = c.args in
    held-done _ _ (sense-done _ _ _ _ (holds (goal.at.returns c).Else-not-is_valid) (omega (arith, c.count_of.ensures, c.if-count_of-place.false)) (omega arith))
    (c.sense_one.ensures
    ∙ hold-set a.mem.now (search rules) (valid (goal.at.returns c).Else-not-is_valid).room a.place.0 _
    (omega (arith, c.count_of.ensures, c.if-count_of-place.false)))
