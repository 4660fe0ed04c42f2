-- Request 03, "Say which checksum": what a refusal carries. The two checksums always differ, and only 5 carries something. These are the
-- statements; the proofs are in telegram/proofs/Carrying.antt and, for the calls above, in each layer's.
-- Assumes nothing.
use Rattle.std.specs.Prelude.{◌≡◌, ◌≢◌, ℕ, List}
use Rattle.telegram.specs.Numbers.{Reason, bare, Outcome, refused_for, wrong_checksum}
use Rattle.telegram.specs.Telegram.{reading, building}

-- What a reason carries: with 5 the checksum worked out and the one received, which differ, with any other number nothing.
pub data Carries : Reason → Type 0 where
  both : {computed received : ℕ} → computed ≢ received → Carries (wrong_checksum computed received)
  none : {n : ℕ} → n ≢ 5 → Carries (bare n)

-- Where a call refuses, its reason carries so.
abbrev pub Carried : {A : Type 0} → Outcome A → Type 0
Carried o = (e : Reason) → o ≡ refused_for e → Carries e

-- The telegram reader, and the raw builder.
unfoldable pub ReaderCarries : Type 0
ReaderCarries = (s : List ℕ) → Carried (reading s)

unfoldable pub BuilderCarries : Type 0
BuilderCarries = (a c : ℕ) (p : List ℕ) (room : ℕ) → Carried (building a c p room)
