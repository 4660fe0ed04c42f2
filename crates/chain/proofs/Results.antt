-- For every call there are results that keep its contract: a call refuses only for reasons for which the code has a refusal.
-- Assumes nothing.
use Prim.Native.Nat.{ℕ, zero, suc, ◌+◌, ◌-◌}
use mathlib.Core.Path.{◌≡◌, refl, sym, ap}
use mathlib.Core.Logic.{inl, inr}
use mathlib.Core.Bool.{Bool, true, false, cond, not}
use mathlib.Core.List.{List, [], ◌∷◌}
use native.Mathlib.Omega.{arith}
use lib.Dec.{eqb, ltb}
use lib.ListN.{length}
use Rattle.telegram.specs.declared.Refusal.{Refusal}
use Rattle.telegram.specs.declared.Refusal.TheVariants.{CastNotAllowed, RoomTooSmall, OutOfRange, NoChain, InitPastEnd, NoLamp}
use Rattle.telegram.specs.Numbers.{Outcome, refused_for, done, refuse, counted, leaves, outcome_of}
use Rattle.telegram.proofs.Outcomes.{either, never, refused-one}
use Rattle.telegram.proofs.Carrying.{Answerable, well, told, told-bare, refusing, passing-on, going_on}
use Rattle.table.specs.declared.Cast.{Cast}
use Rattle.table.specs.declared.Cast.TheVariants.{Everyone, One, Group}
use Rattle.command.specs.Commands.{Sent, dissecting}
use Rattle.command.proofs.Carrying.{dissecting-answerable}
use Rattle.rules.specs.declared.Defaults.{Defaults}
use Rattle.rules.specs.declared.Lamp.{Lamp}
use Rattle.rules.specs.Chain.{Chain, Walked, walk, count_right, lamps_right, any_unaddressed, reaching, is_init, last_answers, initialising, visiting, permitting_init, permitting, taken, responding, room_small, delivering, deliver, making, lamp_in, sensing}
use Rattle.rules.specs.Lamp.{numbered_as, with_ce}
use Rattle.rules.proofs.Walks.{Ending, Ended, walk-ended}
use Rattle.chain.specs.Record.{header_size, record_length, count_of, decode, chain_in}
use Rattle.std.specs.Prelude.{Result, Ok, Err}
use Rattle.chain.specs.Memory.{on_chain, delivered, silent, made, sensed_in, lamp_read}
use Rattle.chain.specs.Calls.{Returned, EveryListHasResults}

-- What delivery itself refuses.
permitting-answerable : (xs : List Lamp) (t : Sent) → Answerable (permitting xs t)
unfolding permitting
permitting-answerable xs t = either (λ (o : Outcome Sent). Answerable o) (is_init t.message.number) (by t.cast) (well t refl)
  where
    by : (cast : Cast) → Answerable (permitting_init xs t cast)
    by Everyone = refusing (any_unaddressed xs) CastNotAllowed (omega arith) (well _ refl)
    by (One a) = refusing (ltb 0x3EF (a.0 + length xs - 1)) InitPastEnd (omega arith) (well _ refl)
    by (Group g) = told-bare CastNotAllowed (omega arith) refl

-- A walk is always done: each visit that ends it ends it so.
abbrev Ends : ℕ → Lamp → Outcome (List ℕ) → Type 0
Ends p y o = Answerable o

last_done : (b : Bool) (a n p : ℕ) (x : Lamp) → Ending Ends p (last_answers b a n x)
last_done true a n p x = well _ refl
last_done false a n p x = tt

visiting-done : (d : Defaults) (n : ℕ) (t : Sent) (p : ℕ) (x : Lamp) → Ending Ends p (visiting d n t p x)
unfolding visiting
visiting-done d n t p x = go (is_init k) t.cast
  where
    k : ℕ
    k = t.message.number

    go : (b : Bool) (cast : Cast) → Ending Ends p (cond b (initialising n k cast) (reaching d t.message cast) p x)
    go true Everyone = last_done (eqb (suc p) n) 0 k p (cond (eqb k 0x02) (with_ce x) x)
    go true (One a) = last_done (eqb (suc p) n) (a.0 + p) k p (numbered_as k (a.0 + p) x)
    go true (Group g) = tt
    go false Everyone = tt
    go false (One a) = either (Ending Ends p) (eqb x.address.0 a.0) (well _ refl) tt
    go false (Group g) = tt

taken-answerable : (d : Defaults) (xs : List Lamp) (o : Outcome Sent) → Answerable o → Answerable (taken d xs o).outcome
taken-answerable d xs (refused_for r) h = passing-on r h
taken-answerable d xs (done t) h =
    go (walk-ended Ends (visiting d (length xs) t) (length xs) (λ p x l. visiting-done d (length xs) t p x) 0 xs (omega arith))
  where
    go : Ended Ends 0 (walk (visiting d (length xs) t) 0 xs) → Answerable (walk (visiting d (length xs) t) 0 xs).outcome
    go (inl e) = well [] e
    go (inr r) = r.1.1.1

delivering-answerable : (d : Defaults) (xs : List Lamp) (s : List ℕ) (room : ℕ) → Answerable (delivering d xs (dissecting s) room).outcome
unfolding delivering responding
delivering-answerable d xs s room =
    either (λ (w : Walked). Answerable w.outcome) (room_small room) (told-bare RoomTooSmall (omega arith) refl)
    (taken-answerable d xs _ (going_on (dissecting s) (dissecting-answerable s) (permitting-answerable xs)))

-- A chain in memory.
chain-answerable : (mem : List ℕ) → Answerable (chain_in mem)
unfolding chain_in
chain-answerable mem =
    refusing (ltb (length mem) header_size) NoChain (omega arith)
    (refusing (not (count_right (count_of mem))) NoChain (omega arith)
    (refusing (ltb (length mem) (record_length (count_of mem))) NoChain (omega arith)
    (refusing (not (lamps_right (decode mem).lamps)) NoChain (omega arith) (well _ refl))))

-- The code's answer for such an outcome.
pub answering : (o : Outcome (List ℕ)) → Answerable o → (r : Result ℕ Refusal) × (outcome_of r ≡ counted o)
answering (refused_for d) (well s q) = absurd (never q)
answering (refused_for d) (told e c q) = (Err e, ap refused_for (sym (refused-one q)))
answering (done s) h = (Ok (length s), refl)

-- So delivery can always be answered ..
pub delivered-answerable : (mem s : List ℕ) (room : ℕ) → Answerable (delivered mem s room).outcome
unfolding delivered deliver
delivered-answerable mem s room =
    go (refuse (room_small room) 9 (chain_in mem)) (refusing (room_small room) RoomTooSmall (omega arith) (chain-answerable mem))
  where
    go : (o : Outcome Chain) → Answerable o → Answerable (on_chain mem o (λ (c : Chain). deliver c s room)).outcome
    go (refused_for d) h = passing-on d h
    go (done c) h = delivering-answerable c.defaults c.lamps s room

pub deliver-answer : (mem s : List ℕ) (room : ℕ) → (r : Result ℕ Refusal) × (outcome_of r ≡ counted (delivered mem s room).outcome)
deliver-answer mem s room = answering _ (delivered-answerable mem s room)

-- .. and the making of a chain.
pub made-answerable : (mem : List ℕ) (n : ℕ) (d : Defaults) → Answerable (made mem n d)
unfolding made
made-answerable mem n d =
    going_on (making n d) (refusing (not (count_right n)) NoChain (omega arith) (well _ refl))
    (λ c. refusing (ltb (length mem) (record_length n)) RoomTooSmall (omega arith) (well _ refl))

pub make-answer : (mem : List ℕ) (n : ℕ) (d : Defaults) → (r : Result ℕ Refusal) × (outcome_of r ≡ silent (made mem n d))
make-answer mem n d = go (made mem n d) (made-answerable mem n d)
  where
    go : (o : Outcome Chain) → Answerable o → (r : Result ℕ Refusal) × (outcome_of r ≡ silent o)
    go (refused_for d) (well c q) = absurd (never q)
    go (refused_for d) (told e c q) = (Err e, ap refused_for (sym (refused-one q)))
    go (done c) h = (Ok 0, refl)

-- A sensor report, and reading a lamp out.
lamp-answerable : (xs : List Lamp) (p : ℕ) → Answerable (lamp_in xs p)
lamp-answerable [] p = told-bare NoLamp (omega arith) refl
lamp-answerable (x ∷ xs) zero = well x refl
lamp-answerable (x ∷ xs) (suc p) = lamp-answerable xs p

pub sensed-answerable : (mem : List ℕ) (p t faults : ℕ) → Answerable (sensed_in mem p t faults)
unfolding sensed_in sensing
sensed-answerable mem p t faults =
    going_on (chain_in mem) (chain-answerable mem)
    (λ c. going_on (lamp_in c.lamps p) (lamp-answerable c.lamps p)
    (λ l. refusing (ltb 7 faults) OutOfRange (omega arith) (well _ refl)))

pub read-answerable : (mem : List ℕ) (p : ℕ) → Answerable (lamp_read mem p)
unfolding lamp_read
read-answerable mem p = going_on (chain_in mem) (chain-answerable mem) (λ c. lamp-answerable c.lamps p)

-- For every list of calls there are results that keep the contract.
pub every-list-has-results : EveryListHasResults
unfolding EveryListHasResults
every-list-has-results mem [] = ([], tt)
every-list-has-results mem (k ∷ ks) =
    let l = delivered mem k.telegram (length k.room) in
    let a = deliver-answer mem k.telegram (length k.room) in
    let r : Returned = record { memory = l.memory; room = leaves l.outcome k.room; answer = a.0 } in
    let rest = every-list-has-results l.memory ks in
    (r ∷ rest.0, (record { answer = a.1; memory = refl; room = refl }, rest.1))
