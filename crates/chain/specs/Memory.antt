-- What each call on a chain gives back and leaves in lent memory. Document 01, "Numbers given back", on the chain's calls.
-- Assumes nothing.
use Rattle.std.specs.Prelude.{ℕ, List, ltb, length}
use Rattle.telegram.specs.Numbers.{Outcome, refused_for, done, refuse, after}
use Rattle.rules.specs.declared.Defaults.{Defaults}
use Rattle.rules.specs.declared.Lamp.{Lamp}
use Rattle.rules.specs.Chain.{Chain, Moved, room_small, deliver, making, sensing, lamp_in}
use Rattle.chain.specs.Record.{record_length, hold, chain_in}

-- What a call leaves: the record's memory, and the outcome, done with the bytes of the answer.
pub record Left : Type 0 where
  pub memory : List ℕ
  pub outcome : Outcome (List ℕ)

-- A call on the chain that memory holds. A refusal before leaves the memory.
abbrev pub on_chain : List ℕ → Outcome Chain → (Chain → Moved) → Left
on_chain mem (refused_for e) call = record { memory = mem; outcome = refused_for e }
on_chain mem (done c) call = record { memory = hold mem (call c).chain; outcome = (call c).outcome }

-- Delivery: 9 (answer room under 12 bytes), 11, then 1 to 8, 12.
unfoldable pub delivered : List ℕ → List ℕ → ℕ → Left
delivered mem s room = on_chain mem (refuse (room_small room) 9 (chain_in mem)) (λ (c : Chain). deliver c s room)

-- Memory after a call that gives a chain or refuses: a refusal changes nothing lent.
abbrev pub held : List ℕ → Outcome Chain → List ℕ
held mem (refused_for e) = mem
held mem (done c) = hold mem c

-- Done without an answer: no bytes.
abbrev pub silent : Outcome Chain → Outcome ℕ
silent o = after o (λ (c : Chain). done 0)

-- Making a chain: 11, then 9 where memory is shorter than the record.
unfoldable pub made : List ℕ → ℕ → Defaults → Outcome Chain
made mem n d = after (making n d) (λ (c : Chain). refuse (ltb (length mem) (record_length n)) 9 (done c))

-- Sensor report: 11, then 13, 10.
unfoldable pub sensed_in : List ℕ → ℕ → ℕ → ℕ → Outcome Chain
sensed_in mem p t faults = after (chain_in mem) (λ (c : Chain). sensing c p t faults)

-- Reading the lamp at a place out: 11, then 13.
unfoldable pub lamp_read : List ℕ → ℕ → Outcome Lamp
lamp_read mem p = after (chain_in mem) (λ (c : Chain). lamp_in c.lamps p)
