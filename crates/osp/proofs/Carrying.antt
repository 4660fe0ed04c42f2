-- What a refusal of each function carries, and how the returned value is taken apart.
-- Assumes nothing.
use mathlib.Core.Path.{refl}
use mathlib.Core.Bool.{not, ◌&&◌}
use Prim.Native.Nat.{ℕ}
use native.Mathlib.Omega.{arith}
use lib.Dec.{eqb, leb, ltb}
use mathlib.Core.List.{List}
use Rattle.telegram.specs.Numbers.{Outcome}
use Rattle.telegram.specs.Telegram.{reading}
use Rattle.telegram.specs.declared.Refusal.TheVariants.{OutOfRange}
use Rattle.telegram.specs.Carried.{BuilderCarries}
use Rattle.telegram.proofs.Outcomes.{either}
use Rattle.telegram.proofs.Carrying.{Answerable, well, told-bare, refusing, going_on, fitting-in, answerable-carries, reading-answerable, builder-carries}
use Rattle.table.specs.declared.Cast.{Cast}
use Rattle.command.specs.Commands.{Message, dissecting, composing}
use Rattle.command.proofs.Carrying.{dissecting-answerable, composing-answerable, building-answerable}
use Rattle.answer.specs.Answers.{dissecting_answer}
use Rattle.answer.proofs.Carrying.{replying-answerable}
use Rattle.chain.specs.Memory.{lamp_read}
use Rattle.chain.proofs.Results.{read-answerable}
use Rattle.chain.proofs.Carrying.{chain-carries}
use Rattle.reader.proofs.Carrying.{reader-carries}
use Rattle.osp.specs.Interface.{read_bytes, osp_read, sent_bytes, osp_dissect, reply_bytes, osp_dissect_answer, directing, building_directed, pwm_message, osp_build_command, osp_build_pwm, lamp_bytes, osp_lamp}
use Rattle.osp.specs.Carried.{InterfaceCarries, MacrosTell}

-- A cast from its two numbers, or 10.
directing-answerable : (kind value : ℕ) → Answerable (directing kind value)
unfolding directing
directing-answerable kind value =
    let P : Outcome Cast → Type 0 = λ o. Answerable o in
    either P (eqb kind 0) (refusing (not (eqb value 0)) OutOfRange (omega arith) (well _ refl))
    (either P (eqb kind 1) (refusing (not (leb 1 value && leb value 0x3EF)) OutOfRange (omega arith) (well _ refl))
    (either P (eqb kind 2) (refusing (not (leb value 14)) OutOfRange (omega arith) (well _ refl)) (told-bare OutOfRange (omega arith) refl)))

directed-answerable : (m : Message) (kind value room : ℕ) → Answerable (building_directed m kind value room)
unfolding building_directed
directed-answerable m kind value room =
    going_on (directing kind value) (directing-answerable kind value) (λ cast. building-answerable m cast room)

-- What takes a telegram apart, and what reads a lamp out, writes its result where it fits.
read-answers : (s : List ℕ) (room : ℕ) → Answerable (osp_read s room)
unfolding osp_read
read-answers s room = going_on (reading s) (reading-answerable s) (λ t. fitting-in room (read_bytes s t))

dissect-answers : (s : List ℕ) (room : ℕ) → Answerable (osp_dissect s room)
unfolding osp_dissect
dissect-answers s room = going_on (dissecting s) (dissecting-answerable s) (λ m. fitting-in room (sent_bytes m))

reply-answers : (s : List ℕ) (room : ℕ) → Answerable (osp_dissect_answer s room)
unfolding osp_dissect_answer
reply-answers s room = going_on (dissecting_answer s) (replying-answerable s) (λ a. fitting-in room (reply_bytes a))

lamp-answers : (mem : List ℕ) (p room : ℕ) → Answerable (osp_lamp mem p room)
unfolding osp_lamp
lamp-answers mem p room = going_on (lamp_read mem p) (read-answerable mem p) (λ l. fitting-in room (lamp_bytes l))

-- The builders of commands.
command-answers : (n kind value : ℕ) (p : List ℕ) (room : ℕ) → Answerable (osp_build_command n kind value p room)
unfolding osp_build_command
command-answers n kind value p room = going_on (composing n p) (composing-answerable n p) (λ m. directed-answerable m kind value room)

pwm-answers : (kind value modes r g b room : ℕ) → Answerable (osp_build_pwm kind value modes r g b room)
unfolding osp_build_pwm
pwm-answers kind value modes r g b room =
    refusing (ltb 7 modes) OutOfRange (omega arith)
    (refusing (ltb 32767 r) OutOfRange (omega arith)
    (refusing (ltb 32767 g) OutOfRange (omega arith)
    (refusing (ltb 32767 b) OutOfRange (omega arith) (directed-answerable (pwm_message modes r g b) kind value room))))

pub interface-carries : InterfaceCarries
unfolding BuilderCarries
interface-carries =
    record {
      read = λ s room. answerable-carries _ (read-answers s room);
      dissect = λ s room. answerable-carries _ (dissect-answers s room);
      dissect_answer = λ s room. answerable-carries _ (reply-answers s room);
      build = builder-carries;
      build_command = λ n kind value p room. answerable-carries _ (command-answers n kind value p room);
      build_pwm = λ kind value modes r g b room. answerable-carries _ (pwm-answers kind value modes r g b room);
      make = chain-carries.make;
      deliver = chain-carries.deliver;
      sense = chain-carries.sense;
      lamp = λ mem p room. answerable-carries _ (lamp-answers mem p room);
      next = reader-carries.next;
      end = reader-carries.end;
    }

pub macros-tell : MacrosTell
unfolding MacrosTell
macros-tell = (λ c r hc hr. record { number = omega arith; worked = omega arith; got = omega arith }, λ n. omega arith)
