-- Document 01, "A lamp and the chain", on the chain: making, the walk of a telegram along the lamps, delivery, sensor report.
-- Assumes nothing.
use Rattle.std.specs.Prelude.{ℕ, zero, suc, ◌+◌, ◌-◌, Bool, true, false, cond, not, ◌&&◌, ◌||◌, List, [], ◌∷◌, eqb, leb, ltb, length, set, replicate}
use Rattle.telegram.specs.Numbers.{Outcome, refused_for, refused, done, refuse, after}
use Rattle.telegram.specs.Telegram.{telegram_of}
use Rattle.table.specs.declared.Cast.{Cast}
use Rattle.table.specs.declared.Cast.TheVariants.{Everyone, One, Group}
use Rattle.command.specs.Commands.{Message, Sent, dissecting}
use Rattle.rules.specs.declared.Defaults.{Defaults}
use Rattle.rules.specs.declared.Lamp.{Lamp}
use Rattle.rules.specs.Lamp.{blank, no_address, report, acted, answered, member, numbered_as, with_ce, sensed}

-- A chain: its defaults, and its lamps from place 0 on.
pub record Chain : Type 0 where
  pub defaults : Defaults
  pub lamps : List Lamp

-- The chain with other lamps.
abbrev pub with_lamps : Chain → List Lamp → Chain
with_lamps c xs = record { defaults = c.defaults; lamps = xs }

-- 1 to 1007 lamps.
abbrev pub count_right : ℕ → Bool
count_right n = leb 1 n && leb n 1007

-- A stored address is 001 to 3EF or 3FF.
abbrev pub address_right : ℕ → Bool
address_right a = eqb a no_address.0 || (leb 1 a && leb a 0x3EF)

-- A valid lamp has such an address; its other fields have no value outside their range.
abbrev pub lamp_right : Lamp → Bool
lamp_right l = address_right l.address.0

-- Each lamp is valid; two lamps with the same address are.
abbrev pub lamps_right : List Lamp → Bool
lamps_right [] = true
lamps_right (x ∷ xs) = lamp_right x && lamps_right xs

-- A valid chain: its count is right and each lamp is valid.
unfoldable pub chain_right : Chain → Bool
chain_right c = count_right (length c.lamps) && lamps_right c.lamps

-- Fresh lamps: temperature 0, everything else as RESET leaves it.
unfoldable pub fresh : ℕ → Defaults → Chain
fresh n d = record { defaults = d; lamps = replicate n (blank d 0) }

-- The making of a chain: 11 for a count that is not 1 to 1007.
abbrev pub making : ℕ → Defaults → Outcome Chain
making n d = refuse (not (count_right n)) 11 (done (fresh n d))

-- What becomes of a telegram at one lamp: it goes on to the next one, or it ends there with an outcome.
pub data Step : Type 0 where
  onward : Lamp → Step
  ends : Lamp → Outcome (List ℕ) → Step

-- What a telegram leaves: the lamps, and the outcome, done with the answer's bytes. No bytes is no answer.
pub record Walked : Type 0 where
  pub lamps : List Lamp
  pub outcome : Outcome (List ℕ)

-- A step at a lamp, the lamps behind it, and what they come to if the telegram goes on.
abbrev pub stepped : Step → List Lamp → Walked → Walked
stepped (onward y) xs w = record { lamps = y ∷ w.lamps; outcome = w.outcome }
stepped (ends y o) xs w = record { lamps = y ∷ xs; outcome = o }

-- The walk along the lamps from place p on, for every cast and both inits. Past the last lamp it is done without an answer.
abbrev pub walk : (ℕ → Lamp → Step) → ℕ → List Lamp → Walked
walk visit p [] = record { lamps = []; outcome = done [] }
walk visit p (x ∷ xs) = stepped (visit p x) xs (walk visit (suc p) xs)

-- An answer carries the answering lamp's address, the command's number and the listed bytes.
abbrev pub answer_from : ℕ → ℕ → List ℕ → List ℕ
answer_from a n [] = []
answer_from a n (x ∷ xs) = telegram_of a n (x ∷ xs)

-- A command that is no init, at a lamp. Everyone: each lamp. Unicast: the first lamp with that address takes it; it ends there, even
-- when that lamp passes it by. Group g: each member of g.
abbrev pub reaching : Defaults → Message → Cast → ℕ → Lamp → Step
reaching d m Everyone p l = onward (acted d m l)
reaching d m (One a) p l =
    cond (eqb l.address.0 a.0) (ends (acted d m l) (done (answer_from a.0 m.number (answered d m l)))) (onward l)
reaching d m (Group g) p l = onward (cond (member g l) (acted d m l) l)

-- 02 and 03 are init.
unfoldable pub is_init : ℕ → Bool
is_init n = eqb n 0x02 || eqb n 0x03

-- The last lamp answers temperature and its status after the change, clearing no flag.
abbrev pub last_answers : Bool → ℕ → ℕ → Lamp → Step
last_answers true a n l = ends l (done (answer_from a n (report l)))
last_answers false a n l = onward l

-- An init, at the lamp at place p of a chain of n. From a: place p gets address a + p. At 000: INITBIDIR sets CE, and the answer has
-- address 000. (The dissector accepts no init for a group.)
abbrev pub initialising : ℕ → ℕ → Cast → ℕ → Lamp → Step
initialising n k Everyone p l = last_answers (eqb (suc p) n) 0 k (cond (eqb k 0x02) (with_ce l) l)
initialising n k (One a) p l = last_answers (eqb (suc p) n) (a.0 + p) k (numbered_as k (a.0 + p) l)
initialising n k (Group g) p l = onward l

-- An accepted telegram, at the lamp at place p of a chain of n.
unfoldable pub visiting : Defaults → ℕ → Sent → ℕ → Lamp → Step
visiting d n t = cond (is_init t.message.number) (initialising n t.message.number t.cast) (reaching d t.message t.cast)

-- Any lamp has address 3FF.
abbrev pub any_unaddressed : List Lamp → Bool
any_unaddressed [] = false
any_unaddressed (x ∷ xs) = eqb x.address.0 no_address.0 || any_unaddressed xs

-- Init at 000: refused (7) if any lamp has address 3FF. Init from a: if a + n − 1 is above 3EF it is refused (12).
abbrev pub permitting_init : List Lamp → Sent → Cast → Outcome Sent
permitting_init xs t Everyone = refuse (any_unaddressed xs) 7 (done t)
permitting_init xs t (One a) = refuse (ltb 0x3EF (a.0 + length xs - 1)) 12 (done t)
permitting_init xs t (Group g) = refused 7

-- What delivery itself refuses of what the dissector accepts.
unfoldable pub permitting : List Lamp → Sent → Outcome Sent
permitting xs t = cond (is_init t.message.number) (permitting_init xs t t.cast) (done t)

-- CE set on the lamp at place 0.
abbrev pub first_ce : List Lamp → List Lamp
first_ce [] = []
first_ce (x ∷ xs) = with_ce x ∷ xs

-- A refusal changes nothing; the one exception is 5, which sets CE on the lamp at place 0. What is accepted walks along the lamps.
abbrev pub taken : Defaults → List Lamp → Outcome Sent → Walked
taken d xs (refused_for e) = record { lamps = cond (eqb e.number 5) (first_ce xs) xs; outcome = refused_for e }
taken d xs (done t) = walk (visiting d (length xs) t) 0 xs

-- The lamps and what the dissector gave: 1 to 8, then 7 at 000 or 12.
unfoldable pub responding : Defaults → List Lamp → Outcome Sent → Walked
responding d xs o = taken d xs (after o (permitting xs))

-- A room for an answer is too small when it is under 12 bytes.
abbrev pub room_small : ℕ → Bool
room_small room = ltb room 12

-- The same with a room for the answer: 9 first.
unfoldable pub delivering : Defaults → List Lamp → Outcome Sent → ℕ → Walked
delivering d xs o room = cond (room_small room) (record { lamps = xs; outcome = refused 9 }) (responding d xs o)

-- What a delivery leaves: the chain and the outcome.
pub record Moved : Type 0 where
  pub chain : Chain
  pub outcome : Outcome (List ℕ)

-- A chain with what a telegram left.
abbrev pub moved : Chain → Walked → Moved
moved c w = record { chain = with_lamps c w.lamps; outcome = w.outcome }

-- The delivery of a telegram to a chain, with a room of a given length for the answer: 9, 1 to 8, 12.
unfoldable pub deliver : Chain → List ℕ → ℕ → Moved
deliver c s room = moved c (delivering c.defaults c.lamps (dissecting s) room)

-- The lamp at a place; 13 where there is none.
abbrev pub lamp_in : List Lamp → ℕ → Outcome Lamp
lamp_in [] p = refused 13
lamp_in (x ∷ xs) zero = done x
lamp_in (x ∷ xs) (suc p) = lamp_in xs p

-- A sensor report for a place: 13, then 10 for a fault number above 7.
unfoldable pub sensing : Chain → ℕ → ℕ → ℕ → Outcome Chain
sensing c p t faults =
    after (lamp_in c.lamps p) (λ (l : Lamp). refuse (ltb 7 faults) 10 (done (with_lamps c (set c.lamps p (sensed t faults l)))))
