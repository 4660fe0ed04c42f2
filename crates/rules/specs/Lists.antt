-- Document 01, "Lists of deliveries": what demand 3 says, over the rules.
-- Assumes nothing.
use Rattle.std.specs.Prelude.{ℕ, ◌+◌, ◌<◌, ◌≡◌, ◌≢◌, Bool, true, false, cond, List, [], ◌∷◌, ◌++◌, eqb, length}
use Rattle.telegram.specs.Numbers.{Outcome, refused_for, done, refuse, after}
use Rattle.table.specs.declared.Cast.{Cast}
use Rattle.table.specs.declared.Cast.TheVariants.{Everyone, One, Group}
use Rattle.command.specs.Commands.{Sent, dissecting}
use Rattle.rules.specs.declared.Defaults.{Defaults}
use Rattle.rules.specs.declared.Lamp.{Lamp}
use Rattle.rules.specs.Chain.{Chain, making, is_init, room_small, deliver, lamp_in}

-- One delivery of a list: the telegram's bytes and the length of the room for its answer, both fixed beforehand.
pub record Delivery : Type 0 where
  pub telegram : List ℕ
  pub room : ℕ

-- What a list of deliveries leaves: the chain, and the outcome of each.
pub record Ran : Type 0 where
  pub chain : Chain
  pub outcomes : List (Outcome (List ℕ))

-- Every delivery gets the chain as the one before left it, done or refused.
abbrev pub run : Chain → List Delivery → Ran
run c [] = record { chain = c; outcomes = [] }
run c (i ∷ is) =
    let m = deliver c i.telegram i.room in
    let r = run m.chain is in
    record { chain = r.chain; outcomes = m.outcome ∷ r.outcomes }

-- A cast that is one lamp.
abbrev pub OneLamp : Cast → Type 0
OneLamp Everyone = ⊥
OneLamp (One a) = Unit {0}
OneLamp (Group g) = ⊥

-- The list may hold whatever the dissector accepts for one lamp and which is no init, and what it refuses with a number other than 5.
abbrev pub Listed : Outcome Sent → Type 0
Listed (refused_for e) = e.number ≢ 5
Listed (done t) = (is_init t.message.number ≡ false) × OneLamp t.cast

-- Each delivery of a list is such a one. The list may be empty.
abbrev pub AllListed : List Delivery → Type 0
AllListed [] = Unit {0}
AllListed (i ∷ is) = Listed (dissecting i.telegram) × AllListed is

-- A telegram is for the one-lamp address b.
abbrev pub cast_for : ℕ → Cast → Bool
cast_for b Everyone = false
cast_for b (One a) = eqb a.0 b
cast_for b (Group g) = false

-- A lamp's own telegrams are those accepted by the dissector for the address b which it got at the start.
abbrev pub own : ℕ → Outcome Sent → Bool
own b (refused_for e) = false
own b (done t) = cast_for b t.cast

-- Which deliveries of a list are its own.
abbrev pub own_marks : ℕ → List Delivery → List Bool
own_marks b [] = []
own_marks b (i ∷ is) = own b (dissecting i.telegram) ∷ own_marks b is

-- The entries of a list that are marked, in order.
abbrev pub keep : {A : Type 0} → List Bool → List A → List A
keep [] xs = []
keep (t ∷ ts) [] = []
keep (t ∷ ts) (x ∷ xs) = cond t (x ∷ keep ts xs) (keep ts xs)

-- The list starts from the record as the making of a chain and then one accepted init left it: n lamps made with the defaults d and
-- numbered from a by an init of the kind k, 02 or 03. (Init at 000 is never accepted by a fresh chain: see `first-only`.)
pub record Start (n : ℕ) (d : Defaults) (k a : ℕ) (c : Chain) : Type 0 where
  pub made : Chain
  pub making-done : making n d ≡ done made
  pub telegram : List ℕ
  pub room : ℕ
  pub sent : Sent
  pub dissected : dissecting telegram ≡ done sent
  pub kind : sent.message.number ≡ k
  pub init : is_init k ≡ true
  pub first : sent.cast ≡ One (record { 0 = a })
  pub answer : List ℕ
  pub accepted : (deliver made telegram room).outcome ≡ done answer
  pub left : (deliver made telegram room).chain ≡ c

-- The lamp at place p of the chain c, and the lone lamp c₁, which alone gets the telegrams for the address b in order, each with the
-- same room. Compared are every field of the lamp after the list and, for each own telegram, the number given back and the answer's
-- bytes, or that there is none.
pub record Alone (p b : ℕ) (c c₁ : Chain) (is : List Delivery) : Type 0 where
  pub lamp : Lamp
  pub together : lamp_in (run c is).chain.lamps p ≡ done lamp
  pub alone : (run c₁ (keep (own_marks b is) is)).chain.lamps ≡ lamp ∷ []
  pub outcomes : keep (own_marks b is) (run c is).outcomes ≡ (run c₁ (keep (own_marks b is) is)).outcomes

-- Demand 3: on a fresh chain numbered by an accepted init, over every list of deliveries, each lamp ends and answers exactly as it
-- would alone, given only its own telegrams. The lone chain is made with the same defaults and numbered at that address by the same
-- kind of init.
unfoldable pub EachAsAlone : Type 0
EachAsAlone =
    (n : ℕ) (d : Defaults) (k a p : ℕ) (c c₁ : Chain)
    -- "The list starts from the record as the making of a chain and then one accepted init left it."
    → Start n d k a c
    -- "With n lamps numbered from a, the lamp at place p has address a + p": each place of the chain.
    → p < n
    -- "Alone, it gets them in order, each with the same room, by the rules of this page": a chain of one, started likewise.
    → Start 1 d k (a + p) c₁
    → (is : List Delivery)
    -- "The list may hold whatever the command dissector accepts for one lamp and which is no init, and whatever it refuses with a
    -- number other than 5."
    → AllListed is
    → Alone p (a + p) c c₁ is

-- A telegram which the dissector accepts for the one-lamp address a and which is no init.
pub record ForOne (i : Delivery) (a : ℕ) : Type 0 where
  pub sent : Sent
  pub dissected : dissecting i.telegram ≡ done sent
  pub plain : is_init sent.message.number ≡ false
  pub cast : sent.cast ≡ One (record { 0 = a })

-- Two neighbours i and j of a list trade places: the same chain, and each delivery's number and answer stay with it.
pub record Traded (c : Chain) (before : List Delivery) (i j : Delivery) (after : List Delivery) : Type 0 where
  pub chain : (run c (before ++ i ∷ j ∷ after)).chain ≡ (run c (before ++ j ∷ i ∷ after)).chain
  pub of_before : List (Outcome (List ℕ))
  pub of_i : Outcome (List ℕ)
  pub of_j : Outcome (List ℕ)
  pub of_after : List (Outcome (List ℕ))
  pub aligned : length of_before ≡ length before
  pub straight : (run c (before ++ i ∷ j ∷ after)).outcomes ≡ of_before ++ of_i ∷ of_j ∷ of_after
  pub crossed : (run c (before ++ j ∷ i ∷ after)).outcomes ≡ of_before ++ of_j ∷ of_i ∷ of_after

-- Demand 3, second half: neighbours for different addresses may trade places. It holds of every chain and every list around them.
unfoldable pub NeighboursTrade : Type 0
NeighboursTrade =
    (c : Chain) (before : List Delivery) (i j : Delivery) (after : List Delivery) (a b : ℕ)
    -- "Two neighbours which trade places, both accepted by the dissector for different addresses, keep their rooms."
    → ForOne i a
    → ForOne j b
    → a ≢ b
    → Traded c before i j after

-- A telegram in the list which the dissector refuses, or which goes to a one-lamp address that init gave to no lamp of n from a ..
abbrev pub NobodysCast : ℕ → ℕ → Cast → Type 0
NobodysCast n a Everyone = ⊥
NobodysCast n a (One b) = (p : ℕ) → p < n → b.0 ≢ a + p
NobodysCast n a (Group g) = ⊥

-- .. of what the dissector gave.
abbrev pub Nobodys : ℕ → ℕ → Outcome Sent → Type 0
Nobodys n a (refused_for e) = Unit {0}
Nobodys n a (done t) = NobodysCast n a t.cast

-- It gives 9 when its room is under 12 bytes, else the refusal, else 0 without an answer.
abbrev pub unanswered : Outcome Sent → ℕ → Outcome (List ℕ)
unanswered o room = refuse (room_small room) 9 (after o (λ (t : Sent). done []))

-- Demand 3, the rest of the list: it changes no lamp.
unfoldable pub NobodysChangeNothing : Type 0
NobodysChangeNothing =
    (n : ℕ) (d : Defaults) (k a : ℕ) (c : Chain) (before : List Delivery) (i : Delivery)
    → Start n d k a c
    → AllListed before
    → Listed (dissecting i.telegram)
    → Nobodys n a (dissecting i.telegram)
    → ((deliver (run c before).chain i.telegram i.room).chain ≡ (run c before).chain)
    × ((deliver (run c before).chain i.telegram i.room).outcome ≡ unanswered (dissecting i.telegram) i.room)
