-- `chain::delivery::refuse` meets its contract: 5 marks the lamp at place 0.
-- Assumes nothing.
use mathlib.Core.Path.{◌≡◌, ◌∙◌, refl, sym, ap}
use mathlib.Core.Logic.{◌≢◌}
use mathlib.Core.Bool.{true≢false}
use Prim.Native.Nat.{ℕ}
use native.Mathlib.Omega.{arith}
use Rattle.telegram.specs.Numbers.{number_of}
use Rattle.telegram.specs.declared.Refusal.{Refusal}
use Rattle.telegram.specs.declared.Refusal.TheVariants.{TooShort, Preamble, SizeIndex, ByteCount, Checksum, UnknownCommand, CastNotAllowed, PayloadSize, RoomTooSmall, OutOfRange, NoChain, InitPastEnd, NoLamp}
use Rattle.chain.specs.Record.{decode}
use Rattle.chain.proofs.Validity.{Valid, chain-in}
use Rattle.chain.proofs.Responding.{refuse-other, refuse-marks}
use borrow.Author.Rules.{rules}
use Rattle.chain.proofs.delivery.refuse.Goals as goal
use Rattle.chain.proofs.delivery.refuse.Goals.{Start, in-Checksum, in_default}

-- memory holds a chain
valid : (c : Start) → let mem = c.args.mem.now in
    Valid mem (decode mem)
valid c = chain-in _ _ c.requires

-- no refusal but that of the checksum has the number 5
only-checksum : (e : Refusal) → ((x y : ℕ) → e ≡ Checksum x y → ⊥) → number_of e ≢ 5
only-checksum (Checksum x y) h = λ k. h x y refl
only-checksum TooShort h = omega arith
only-checksum Preamble h = omega arith
only-checksum SizeIndex h = omega arith
only-checksum ByteCount h = omega arith
only-checksum UnknownCommand h = omega arith
only-checksum CastNotAllowed h = omega arith
only-checksum PayloadSize h = omega arith
only-checksum RoomTooSmall h = omega arith
only-checksum OutOfRange h = omega arith
only-checksum NoChain h = omega arith
only-checksum InitPastEnd h = omega arith
only-checksum NoLamp h = omega arith

pub mark_one-requires : goal.mark_one-requires
unfolding decode
mark_one-requires c = omega (arith, (valid (goal.at.mark_one-requires c).Start).room, (valid (goal.at.mark_one-requires c).Start).some)

pub returns-then-matches : goal.returns-then-matches
unfolding decode
returns-then-matches c = let m = c.args.mem.now in
    let five : number_of c.args.e ≡ 5 = elim c.match-matches.branch [
      | in-Checksum w ↦ ap number_of w.in-Checksum.is
      | in_default w ↦ absurd (true≢false (sym c.if-matches.true ∙ w.matches-is))
    ] in
    let w = refuse-marks m (search rules) (valid (goal.at.returns-then-matches c).Start) _ m five c.mark_one.ensures in
    record { answer = w.answer; memory = w.memory }

pub returns-else-matches : goal.returns-else-matches
unfolding decode
returns-else-matches c = let m = c.args.mem.now in
    let other : number_of c.args.e ≢ 5 = elim c.match-matches.branch [
      | in-Checksum w ↦ absurd (true≢false (sym w.matches-is ∙ c.if-matches.false))
      | in_default w ↦ only-checksum c.args.e w.in_default.not-Checksum
    ] in
    let w = refuse-other m (search rules) (valid (goal.at.returns-else-matches c).Start) _ m other in
    record { answer = w.answer; memory = w.memory }
