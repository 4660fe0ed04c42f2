-- Request 03, "Say which checksum", of the calls on a chain in memory. These are the statements; the proofs are in
-- chain/proofs/Carrying.antt.
-- Assumes nothing.
use Rattle.std.specs.Prelude.{ℕ, ◌≤◌, ◌≡◌, List}
use Rattle.telegram.specs.Numbers.{Reason, refused_for, done}
use Rattle.telegram.specs.Telegram.{reading}
use Rattle.telegram.specs.Carried.{Carried}
use Rattle.rules.specs.declared.Defaults.{Defaults}
use Rattle.rules.specs.Chain.{Chain}
use Rattle.chain.specs.Record.{chain_in}
use Rattle.chain.specs.Memory.{delivered, made, sensed_in, lamp_read}

-- "Delivery passes both on": what the reader refuses, delivery to a chain refuses for the same reason, where the room is large enough.
unfoldable pub DeliveryPassesOn : Type 0
DeliveryPassesOn =
    (mem s : List ℕ) (room : ℕ) (c : Chain) (e : Reason)
    → 12 ≤ room
    → chain_in mem ≡ done c
    → reading s ≡ refused_for e
    → (delivered mem s room).outcome ≡ refused_for e

-- With 5 two checksums that differ, with any other number nothing: every call on a chain.
pub record ChainCarries : Type 0 where
  pub deliver : (mem s : List ℕ) (room : ℕ) → Carried (delivered mem s room).outcome
  pub make : (mem : List ℕ) (n : ℕ) (d : Defaults) → Carried (made mem n d)
  pub sense : (mem : List ℕ) (p t faults : ℕ) → Carried (sensed_in mem p t faults)
  pub lamp : (mem : List ℕ) (p : ℕ) → Carried (lamp_read mem p)
