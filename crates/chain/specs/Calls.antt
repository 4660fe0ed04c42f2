-- Demand 3 over the program's own contracts: lists of calls of `deliver` on real memory, refused ones included.
-- Assumes nothing.
use Rattle.std.specs.Prelude.{ℕ, ◌+◌, ◌<◌, ◌≡◌, ◌≢◌, true, Result, List, [], ◌∷◌, ◌++◌, map, length, take}
use Rattle.telegram.specs.Numbers.{Outcome, refused_for, done, counted, leaves, outcome_of}
use Rattle.telegram.specs.declared.Refusal.{Refusal}
use Rattle.table.specs.declared.Cast.TheVariants.{One}
use Rattle.command.specs.Commands.{Sent, dissecting}
use Rattle.rules.specs.declared.Defaults.{Defaults}
use Rattle.rules.specs.declared.Lamp.{Lamp}
use Rattle.rules.specs.Chain.{is_init}
use Rattle.rules.specs.Lists.{Delivery, AllListed, Listed, own_marks, keep, ForOne, Nobodys, unanswered}
use Rattle.chain.specs.Memory.{delivered, held, silent, made, lamp_read}

-- One call of `deliver`: the telegram's bytes, and what the lent room holds before.
pub record Call : Type 0 where
  pub telegram : List ℕ
  pub room : List ℕ

-- What it leaves and gives back: the record's memory, the room, the answer.
pub record Returned : Type 0 where
  pub memory : List ℕ
  pub room : List ℕ
  pub answer : Result ℕ Refusal

-- The contract of `deliver`, its three equations.
pub record Delivers (mem : List ℕ) (k : Call) (r : Returned) : Type 0 where
  pub answer : outcome_of r.answer ≡ counted (delivered mem k.telegram (length k.room)).outcome
  pub memory : r.memory ≡ (delivered mem k.telegram (length k.room)).memory
  pub room : r.room ≡ leaves (delivered mem k.telegram (length k.room)).outcome k.room

-- The contract of `make`, its two equations, on memory that becomes mem.
pub record Makes (before : List ℕ) (n : ℕ) (d : Defaults) (answer : Result ℕ Refusal) (mem : List ℕ) : Type 0 where
  pub answered : outcome_of answer ≡ silent (made before n d)
  pub memory : mem ≡ held before (made before n d)

-- A list of calls. Every delivery gets the record as the one before left it, done or refused; nothing else writes it meanwhile.
abbrev pub Calls : List ℕ → List Call → List Returned → Type 0
Calls mem [] [] = Unit {0}
Calls mem [] (r ∷ rs) = ⊥
Calls mem (k ∷ ks) [] = ⊥
Calls mem (k ∷ ks) (r ∷ rs) = Delivers mem k r × Calls r.memory ks rs

-- The record's memory after a list of calls.
abbrev pub last_memory : List ℕ → List Returned → List ℕ
last_memory mem [] = mem
last_memory mem (r ∷ rs) = last_memory r.memory rs

-- What is compared of a call: the number given back and the answer's bytes, or that there is none ..
abbrev pub heard_as : Outcome ℕ → List ℕ → Outcome (List ℕ)
heard_as (refused_for e) room = refused_for e
heard_as (done count) room = done (take count room)

-- .. of what a call left and gave back.
abbrev pub heard : Returned → Outcome (List ℕ)
heard r = heard_as (outcome_of r.answer) r.room

-- A call as a delivery of the rules: its bytes and the length of its room.
abbrev pub delivery_of : Call → Delivery
delivery_of k = record { telegram = k.telegram; room = length k.room }

-- Memory as the making of a chain and then one accepted init left it: any memory, a call of `make` that was done, and a call of
-- `deliver` with an init from a that was done.
pub record Started (n : ℕ) (d : Defaults) (k a : ℕ) (mem : List ℕ) : Type 0 where
  pub before : List ℕ
  pub make_answer : Result ℕ Refusal
  pub fresh : List ℕ
  pub makes : Makes before n d make_answer fresh
  pub made : outcome_of make_answer ≡ done 0
  pub call : Call
  pub sent : Sent
  pub dissected : dissecting call.telegram ≡ done sent
  pub kind : sent.message.number ≡ k
  pub init : is_init k ≡ true
  pub first : sent.cast ≡ One (record { 0 = a })
  pub returned : Returned
  pub delivers : Delivers fresh call returned
  pub count : ℕ
  pub accepted : outcome_of returned.answer ≡ done count
  pub left : returned.memory ≡ mem

-- The lamp at place p of the memory `many` reads out as the lone lamp of the memory `one`, every field; and what was heard of each of
-- its own calls is what was heard of the lone lamp's.
pub record AloneInMemory (p b : ℕ) (many one : List ℕ) (ks : List Call) (rs rs₁ : List Returned) : Type 0 where
  pub lamp : Lamp
  pub together : lamp_read many p ≡ done lamp
  pub alone : lamp_read one 0 ≡ done lamp
  pub outcomes : keep (own_marks b (map delivery_of ks)) (map heard rs) ≡ map heard rs₁

-- Demand 3 of the program: on a fresh chain numbered by an accepted init, over every list of deliveries, each lamp ends and answers
-- exactly as it would alone, given only its own telegrams.
unfoldable pub EachAsAloneInMemory : Type 0
EachAsAloneInMemory =
    (n : ℕ) (d : Defaults) (k a p : ℕ) (mem mem₁ : List ℕ)
    -- "The list starts from the record as the making of a chain and then one accepted init left it."
    → Started n d k a mem
    -- "With n lamps numbered from a, the lamp at place p has address a + p": each place of the chain.
    → p < n
    -- the lone chain, made with the same defaults and numbered at that address by the same kind of init
    → Started 1 d k (a + p) mem₁
    -- "The bytes of its telegrams and the room for each answer are fixed beforehand."
    → (ks : List Call) (rs rs₁ : List Returned)
    -- "The list may hold whatever the command dissector accepts for one lamp and which is no init, and whatever it refuses with a
    -- number other than 5."
    → AllListed (map delivery_of ks)
    -- "Every delivery gets the record as the one before left it, done or refused; nothing else writes the record meanwhile."
    → Calls mem ks rs
    -- "Alone, it gets them in order, each with the same room, by the rules of this page, refusals too."
    → Calls mem₁ (keep (own_marks (a + p) (map delivery_of ks)) ks) rs₁
    → AloneInMemory p (a + p) (last_memory mem rs) (last_memory mem₁ rs₁) ks rs rs₁

-- Two neighbours that traded places: every byte of the memory is the same, and what was heard of each call stays with it.
pub record TradedInMemory (mem : List ℕ) (before : List Call) (rs rs₁ : List Returned) : Type 0 where
  pub memory : last_memory mem rs ≡ last_memory mem rs₁
  pub of_before : List (Outcome (List ℕ))
  pub of_i : Outcome (List ℕ)
  pub of_j : Outcome (List ℕ)
  pub of_after : List (Outcome (List ℕ))
  pub aligned : length of_before ≡ length before
  pub straight : map heard rs ≡ of_before ++ of_i ∷ of_j ∷ of_after
  pub crossed : map heard rs₁ ≡ of_before ++ of_j ∷ of_i ∷ of_after

-- Neighbours for different addresses may trade places, each with its room, on any memory.
unfoldable pub NeighboursTradeInMemory : Type 0
NeighboursTradeInMemory =
    (mem : List ℕ) (before : List Call) (i j : Call) (after : List Call) (rs rs₁ : List Returned) (a b : ℕ)
    -- "Two neighbours which trade places, both accepted by the dissector for different addresses, keep their rooms."
    → ForOne (delivery_of i) a
    → ForOne (delivery_of j) b
    → a ≢ b
    → Calls mem (before ++ i ∷ j ∷ after) rs
    → Calls mem (before ++ j ∷ i ∷ after) rs₁
    → TradedInMemory mem before rs rs₁

-- A telegram that is nobody's, after a list of calls: no byte of the memory changes, and what is heard of it is 9 when its room is
-- under 12 bytes, else the refusal, else 0 without an answer.
unfoldable pub NobodysChangeNothingInMemory : Type 0
NobodysChangeNothingInMemory =
    (n : ℕ) (d : Defaults) (k a : ℕ) (mem : List ℕ) (before : List Call) (rs : List Returned) (i : Call) (r : Returned)
    → Started n d k a mem
    → AllListed (map delivery_of before)
    → Calls mem before rs
    → Listed (dissecting i.telegram)
    → Nobodys n a (dissecting i.telegram)
    → Delivers (last_memory mem rs) i r
    → (r.memory ≡ last_memory mem rs) × (heard r ≡ unanswered (dissecting i.telegram) (length i.room))

-- What is said of calls is said of something: on every memory, for every list of calls, there are results that keep the contract.
unfoldable pub EveryListHasResults : Type 0
EveryListHasResults = (mem : List ℕ) (ks : List Call) → (rs : List Returned) × Calls mem ks rs
