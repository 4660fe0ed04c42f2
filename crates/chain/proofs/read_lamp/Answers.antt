-- `chain::read_lamp` meets its contract: each test is one line of `lamp_read`.
-- Assumes nothing.
use mathlib.Core.Path.{◌∙◌, ◌≡◌, ap, sym}
use native.Mathlib.Omega.{arith}
use Rattle.telegram.specs.Numbers.{done}
use Rattle.chain.specs.Record.{chain_in, decode}
use Rattle.chain.proofs.Validity.{Valid, chain-in}
use Rattle.chain.proofs.Exits.{chain-yes, chain-no, read-invalid, read-nowhere, read_done}
use Rattle.chain.proofs.read_lamp.Goals as goal
use Rattle.chain.proofs.read_lamp.Goals.{Else-not-is_valid}

-- past the first test memory holds a chain
holds : (c : Else-not-is_valid) → let mem = c.args.mem.now in
    chain_in mem ≡ done (decode mem)
holds c = chain-yes _ c.is_valid.result c.is_valid.ensures c.if-not-is_valid.false

valid : (c : Else-not-is_valid) → let mem = c.args.mem.now in
    Valid mem (decode mem)
valid c = chain-in _ _ (holds c)

pub returns-then-not-is_valid : goal.returns-then-not-is_valid
returns-then-not-is_valid c = sym (read-invalid _ _ (chain-no _ c.is_valid.result c.is_valid.ensures c.if-not-is_valid.true))

pub count_of-requires : goal.count_of-requires
count_of-requires c = omega (arith, (valid c).room)

pub returns-then-count_of-place : goal.returns-then-count_of-place
returns-then-count_of-place c = sym (read-nowhere _ _ (holds (goal.at.returns-then-count_of-place c).Else-not-is_valid) (omega (arith, c.count_of.ensures, c.if-count_of-place.true)))

pub load_lamp-requires : goal.load_lamp-requires
load_lamp-requires c = omega (arith, (valid (goal.at.load_lamp-requires c).Else-not-is_valid).room, c.count_of.ensures, c.if-count_of-place.false)

pub returns : goal.returns
returns c = ap done c.load_lamp.ensures ∙ sym (read_done _ _ (holds (goal.at.returns c).Else-not-is_valid) (omega (arith, c.count_of.ensures, c.if-count_of-place.false)))
