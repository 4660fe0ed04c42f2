-- `chain::delivery::unicast` meets its contract.
-- Assumes nothing.
use mathlib.Core.Path.{◌≡◌, ◌∙◌, ap, sym}
use Prim.Native.Nat.{ℕ, ◌<◌}
use native.Mathlib.Omega.{arith}
use Rattle.telegram.specs.Telegram.{listed}
use Rattle.rules.specs.declared.Defaults.{Defaults}
use Rattle.rules.specs.declared.Place.{Place}
use Rattle.rules.specs.declared.Lamp.{Lamp}
use Rattle.rules.specs.Lamp.{acted, answered}
use mathlib.Core.List.{List}
use Rattle.chain.specs.Record.{count_of, lamps_in, decode}
use Rattle.chain.specs.Places.{lamp_at, with_lamp, place_from}
use Rattle.chain.specs.Helpers.{command_in}
use Rattle.lamp.specs.Reactions.{padded}
use Rattle.lamp.proofs.Payloads.{Handed, handed, answered-listed}
use Rattle.std.specs.Prelude.{Option, Some}
use Rattle.chain.proofs.Validity.{Valid, chain-in}
use Rattle.chain.proofs.Responding.{told, unicast-nobody, found_in, unicast-found}
use borrow.Author.Rules.{rules}
use Rattle.chain.proofs.delivery.unicast.Goals as goal
use Rattle.chain.proofs.delivery.unicast.Goals.{After-answer_bytes, In-Some, Start}

-- memory holds a chain
valid : (c : Start) → let mem = c.args.mem.now in
    Valid mem (decode mem)
valid c = chain-in _ _ c.requires.0

-- what the search gave
search_is : (mem : List ℕ) (a : ℕ) {n : ℕ} {f : Option Place} → f ≡ place_from 0 a (lamps_in n mem) → n ≡ count_of mem
    → f ≡ place_from 0 a (lamps_in (count_of mem) mem)
search_is mem a e k = e ∙ ap (λ (n : ℕ). place_from 0 a (lamps_in n mem)) k

-- the place that was found
found-is : (c : In-Some) → let a = c.args in
    place_from 0 a.a.0 (lamps_in (count_of a.mem.now) a.mem.now) ≡ Some c.in-Some.p
found-is c = sym (search_is c.args.mem.now c.args.a.0 c.find.ensures c.count_of-count.ensures) ∙ c.in-Some.is

in-chain : (c : In-Some) → c.in-Some.p.0 < count_of c.args.mem.now
in-chain c =
    let a = c.args in
    found_in a.mem.now (search rules) (chain-in _ _ c.requires.0) (command_in a.order.number a.order.payload.now) a.a _ (found-is c)

-- the bytes of the answer
bytes : (c : After-answer_bytes) → let a = c.args in
    Handed (answered (decode a.mem.now).defaults (command_in a.order.number a.order.payload.now) (lamp_at a.mem.now c.in-Some.p.0)) c.answer_bytes.result
bytes c =
    let a = c.args in
    let d = (decode a.mem.now).defaults in
    let x = command_in a.order.number a.order.payload.now in
    handed _ _ (c.answer_bytes.ensures d x.fields ∙ ap (λ (l : Lamp). padded (answered d x l)) c.load_lamp.ensures)

pub count_of-count-requires : goal.count_of-count-requires
unfolding decode
count_of-count-requires c = omega (arith, (valid (goal.at.count_of-count-requires c).Start).room)

pub find-requires : goal.find-requires
unfolding decode
find-requires c = omega (arith, (valid (goal.at.find-requires c).Start).room, c.count_of-count.ensures)

pub returns-in_default : goal.returns-in_default
unfolding decode
returns-in_default c = let a = c.args in
    told (unicast-nobody a.mem.now (search rules) (valid (goal.at.returns-in_default c).Start) (command_in a.order.number a.order.payload.now) a.a a.room.now
    (sym (search_is a.mem.now a.a.0 c.find.ensures c.count_of-count.ensures) ∙ c.in_default.is))

pub load_lamp-requires : goal.load_lamp-requires
unfolding decode
load_lamp-requires c = omega (arith, (valid (goal.at.load_lamp-requires c).Start).room, in-chain (goal.at.load_lamp-requires c).In-Some)

pub answer-told-requires : goal.answer-told-requires
unfolding decode
answer-told-requires c = let p = c.requires in
    (p.1, (bytes (goal.at.answer-told-requires c).After-answer_bytes).within, ap listed (bytes (goal.at.answer-told-requires c).After-answer_bytes).size ∙ answered-listed _ _ _)

pub defaults_of-requires : goal.defaults_of-requires
unfolding decode
defaults_of-requires c = omega (arith, (valid (goal.at.defaults_of-requires c).Start).room)

pub act-requires : goal.act-requires
unfolding decode
act-requires c = omega (arith, (valid (goal.at.act-requires c).Start).room, in-chain (goal.at.act-requires c).In-Some)

pub returns : goal.returns
unfolding decode
returns c = let a = c.args in
    let m = a.mem.now in
    let q = c.in-Some.p in
    let x = command_in a.order.number a.order.payload.now in
    let e = c.answer-told.ensures in
    told (unicast-found m (search rules) (valid (goal.at.returns c).Start) x a.a q (found-is (goal.at.returns c).In-Some) a.room.now
    (c.act.ensures ∙ ap (λ (d : Defaults). with_lamp m q.0 (acted d x (lamp_at m q.0))) c.defaults_of.ensures)
    (bytes (goal.at.returns c).After-answer_bytes).payload
    e.answer
    e.room)
