-- Request 03 for C callers, "Say which checksum". These are the statements; the proofs are in osp/proofs/Carrying.antt.
-- Assumes nothing.
use Rattle.std.specs.Prelude.{ℕ, ◌/◌, ◌%◌, ◌<◌, ◌≡◌, List}
use Rattle.telegram.specs.Numbers.{bare, wrong_checksum, value_of}
use Rattle.telegram.specs.Telegram.{building}
use Rattle.telegram.specs.Carried.{Carried}
use Rattle.rules.specs.declared.Defaults.{Defaults}
use Rattle.chain.specs.Memory.{delivered, made, sensed_in}
use Rattle.reader.specs.Interface.{reader_next, reader_end}
use Rattle.osp.specs.Interface.{osp_read, osp_dissect, osp_dissect_answer, osp_build_command, osp_build_pwm, osp_lamp}

-- What each function returns on a refusal: with 5 two checksums that differ, with any other number nothing.
pub record InterfaceCarries : Type 0 where
  pub read : (s : List ℕ) (room : ℕ) → Carried (osp_read s room)
  pub dissect : (s : List ℕ) (room : ℕ) → Carried (osp_dissect s room)
  pub dissect_answer : (s : List ℕ) (room : ℕ) → Carried (osp_dissect_answer s room)
  pub build : (a c : ℕ) (p : List ℕ) (room : ℕ) → Carried (building a c p room)
  pub build_command : (n kind value : ℕ) (p : List ℕ) (room : ℕ) → Carried (osp_build_command n kind value p room)
  pub build_pwm : (kind value modes r g b room : ℕ) → Carried (osp_build_pwm kind value modes r g b room)
  pub make : (mem : List ℕ) (n : ℕ) (d : Defaults) → Carried (made mem n d)
  pub deliver : (mem s : List ℕ) (room : ℕ) → Carried (delivered mem s room).outcome
  pub sense : (mem : List ℕ) (p t faults : ℕ) → Carried (sensed_in mem p t faults)
  pub lamp : (mem : List ℕ) (p room : ℕ) → Carried (osp_lamp mem p room)
  pub next : (mem chunk : List ℕ) (at room : ℕ) → Carried (reader_next mem chunk at room).outcome
  pub end : (mem : List ℕ) → Carried (reader_end mem).outcome

-- `OSP_NUMBER`, `OSP_COMPUTED` and `OSP_RECEIVED` take such a value apart.
pub record Apart (computed received value : ℕ) : Type 0 where
  pub number : value % 256 ≡ 5
  pub worked : value / 256 % 256 ≡ computed
  pub got : value / 65536 % 256 ≡ received

unfoldable pub MacrosTell : Type 0
MacrosTell =
    ((computed received : ℕ) → computed < 256 → received < 256 → Apart computed received (value_of (wrong_checksum computed received)))
    × ((n : ℕ) → value_of (bare n) ≡ n)
