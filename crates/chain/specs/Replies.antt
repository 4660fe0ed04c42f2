-- Every answer that a chain gives is accepted by the answer dissector, with the lamp's address and that command: the statement.
-- Assumes nothing.
use Rattle.std.specs.Prelude.{ℕ, suc, ◌≡◌, true, false, List, ◌∷◌}
use Rattle.telegram.specs.Numbers.{Outcome, refused, done}
use Rattle.table.specs.Casts.{address_of}
use Rattle.table.specs.declared.Cast.{Cast}
use Rattle.table.specs.declared.Cast.TheVariants.{Everyone, One, Group}
use Rattle.command.specs.Commands.{Sent, dissecting}
use Rattle.answer.specs.Answers.{Reply, dissecting_answer}
use Rattle.rules.specs.declared.Lamp.{Lamp}
use Rattle.rules.specs.Chain.{Chain, is_init, deliver, lamp_in}
use Rattle.chain.specs.Memory.{lamp_read}
use Rattle.chain.specs.Calls.{Call, Returned, Delivers, heard}

-- The address that the answer of a lamp to a telegram carries: that lamp's; to a telegram to everyone, 000, from which only answers to
-- an init are accepted. A telegram to a group is not answered.
abbrev pub Carries : Cast → Lamp → ℕ → Type 0
Carries Everyone l a = a ≡ 0
Carries (One b) l a = a ≡ l.address.0
Carries (Group g) l a = ⊥

-- The answer dissector accepts bytes as the answer of a lamp to a telegram: with its command, from the lamp's address, which, unless
-- the telegram is an init, is the one that it was sent to.
pub record AnswerOf (t : Sent) (l : Lamp) (bytes : List ℕ) : Type 0 where
  pub reply : Reply
  pub accepted : dissecting_answer bytes ≡ done reply
  pub number : reply.message.number ≡ t.message.number
  pub address : Carries t.cast l reply.address
  pub asked : is_init t.message.number ≡ false → reply.address ≡ address_of t.cast

-- It accepts bytes as the answer to the telegram s of one of the lamps that are left, given by their places: of the last one, behind
-- which there is none (13), if the telegram is an init.
pub record AnswerAccepted (s : List ℕ) (left : ℕ → Outcome Lamp) (bytes : List ℕ) : Type 0 where
  pub sent : Sent
  pub dissected : dissecting s ≡ done sent
  pub place : ℕ
  pub lamp : Lamp
  pub stands : left place ≡ done lamp
  pub answer : AnswerOf sent lamp bytes
  pub last : is_init sent.message.number ≡ true → left (suc place) ≡ refused 13

-- Every answer of a chain is accepted, to whatever bytes and with whatever room, as that of a lamp as the delivery left it. No bytes is
-- no answer.
unfoldable pub EveryAnswerAccepted : Type 0
EveryAnswerAccepted =
    (c : Chain) (s : List ℕ) (room x : ℕ) (xs : List ℕ)
    → (deliver c s room).outcome ≡ done (x ∷ xs)
    → AnswerAccepted s (lamp_in (deliver c s room).chain.lamps) (x ∷ xs)

-- The same of the program: of a call of `deliver` on whatever memory, whose answer is heard. The lamp is one that reads out of the
-- memory which the call left.
unfoldable pub EveryAnswerAcceptedInMemory : Type 0
EveryAnswerAcceptedInMemory =
    (mem : List ℕ) (k : Call) (r : Returned) (x : ℕ) (xs : List ℕ)
    → Delivers mem k r
    → heard r ≡ done (x ∷ xs)
    → AnswerAccepted k.telegram (lamp_read r.memory) (x ∷ xs)
