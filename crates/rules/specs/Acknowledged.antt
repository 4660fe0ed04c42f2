-- Document 02, request 02: what is said of acknowledged commands, over the rules of a lamp, of the chain and of lists.
-- Assumes nothing.
use Rattle.std.specs.Prelude.{◌≡◌, true, List, [], ℕ}
use Rattle.telegram.specs.Numbers.{done}
use Rattle.table.specs.Table.{acknowledged}
use Rattle.command.specs.Commands.{Message, numbered, Sent, dissecting}
use Rattle.rules.specs.declared.Defaults.{Defaults}
use Rattle.rules.specs.declared.Lamp.{Lamp}
use Rattle.rules.specs.declared.State.TheVariants.{Uninitialized}
use Rattle.rules.specs.Lamp.{plain_form, acted, answered}
use Rattle.rules.specs.Chain.{Chain, deliver}
use Rattle.rules.specs.Lists.{Listed}

-- READTEMPST.
abbrev pub read_temp_status : Message
read_temp_status = numbered 0x42 []

-- "Each does what its plain form does": a lamp becomes what it becomes by the plain form ..
unfoldable pub ChangesAsPlain : Type 0
ChangesAsPlain = (d : Defaults) (m : Message) (l : Lamp) → acted d m l ≡ acted d (plain_form m) l

-- .. and the delivery of a telegram leaves every chain as that of a telegram of the plain form, for the same cast, does.
unfoldable pub LeavesAsPlain : Type 0
LeavesAsPlain =
    (c : Chain) (s plain : List ℕ) (t : Sent) (room : ℕ) → dissecting s ≡ done t → acknowledged t.message.number ≡ true
    → dissecting plain ≡ done (record { message = plain_form t.message; cast = t.cast })
    → (deliver c s room).chain ≡ (deliver c plain room).chain

-- "Clearing no flag": the lamp keeps every flag.
unfoldable pub KeepsFlags : Type 0
KeepsFlags = (d : Defaults) (m : Message) (l : Lamp) → acknowledged m.number ≡ true → (acted d m l).flags ≡ l.flags

-- "Then answers with the two bytes of READTEMPST as they stand after the effect": the bytes that READTEMPST would be answered with next.
unfoldable pub AnswersAfterwards : Type 0
AnswersAfterwards =
    (d : Defaults) (m : Message) (l : Lamp) → acknowledged m.number ≡ true → answered d m l ≡ answered d read_temp_status (acted d m l)

-- "A lamp that passes the command by gives no answer": it is in UNINITIALIZED, and stays as it was.
unfoldable pub PassedBy : Type 0
PassedBy =
    (d : Defaults) (m : Message) (l : Lamp) → acknowledged m.number ≡ true → l.state ≡ Uninitialized
    → (acted d m l ≡ l) × (answered d m l ≡ [])

-- "Demand 3 now includes them": whichever of them the dissector accepts may stand in a list of deliveries.
unfoldable pub MayStandInLists : Type 0
MayStandInLists = (s : List ℕ) (t : Sent) → dissecting s ≡ done t → acknowledged t.message.number ≡ true → Listed (done t)
