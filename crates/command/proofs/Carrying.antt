-- The outcomes of the command dissector, of a command from its number and its payload, and of the command builder can be answered with:
-- the dissector passes the reader's refusal on whole, and nothing else carries anything.
-- Assumes nothing.
use mathlib.Core.Path.{refl}
use mathlib.Core.Bool.{not}
use mathlib.Core.List.{List}
use Prim.Native.Nat.{ℕ}
use native.Mathlib.Omega.{arith}
use lib.ListN.{length}
use Rattle.telegram.specs.Numbers.{Outcome}
use Rattle.telegram.specs.Telegram.{reading, telegram_of}
use Rattle.telegram.specs.declared.Telegram.{Telegram}
use Rattle.telegram.specs.declared.Refusal.TheVariants.{UnknownCommand, CastNotAllowed, PayloadSize, OutOfRange}
use Rattle.telegram.proofs.Carrying.{Answerable, well, told-bare, refusing, going_on, fitting-in, reading-answerable}
use Rattle.table.specs.Table.{row_of, cast_listed, payload_fits, lists_cast}
use Rattle.table.specs.Casts.{destination, cast_in_range, address_of}
use Rattle.table.specs.declared.Row.{Row}
use Rattle.table.specs.declared.Cast.{Cast}
use Rattle.table.proofs.Rows.{by_row, by-destination}
use Rattle.command.specs.Fields.{layout_of, duties_in_range}
use Rattle.command.specs.Commands.{Message, naming, dissecting, payload_of, composing, building_command}

-- The table gives a row or 6, an address a cast or 7.
pub row-answerable : (n : ℕ) → Answerable (row_of n)
row-answerable n = by_row (λ (o : Outcome Row). Answerable o) (λ r. well r refl) (told-bare UnknownCommand (omega arith) refl) n

destination-answerable : (a : ℕ) → Answerable (destination a)
destination-answerable a =
    by-destination (λ (o : Outcome Cast). Answerable o) (λ cast. well cast refl) (told-bare CastNotAllowed (omega arith) refl) a

naming-answerable : (s : List ℕ) (t : Telegram) → Answerable (naming s t)
unfolding naming
naming-answerable s t =
    going_on (row_of t.command) (row-answerable t.command)
    (λ r. going_on (destination t.address.0) (destination-answerable t.address.0)
    (λ cast. refusing (not (cast_listed r.casts cast)) CastNotAllowed (omega arith)
    (refusing (not (payload_fits r t.size)) PayloadSize (omega arith) (well _ refl))))

pub dissecting-answerable : (s : List ℕ) → Answerable (dissecting s)
unfolding dissecting
dissecting-answerable s = going_on (reading s) (reading-answerable s) (naming-answerable s)

pub composing-answerable : (n : ℕ) (p : List ℕ) → Answerable (composing n p)
unfolding composing
composing-answerable n p =
    going_on (row_of n) (row-answerable n) (λ r. refusing (not (payload_fits r (length p))) PayloadSize (omega arith) (well _ refl))

pub building-answerable : (m : Message) (cast : Cast) (room : ℕ) → Answerable (building_command m cast room)
unfolding building_command
building-answerable m cast room =
    refusing (not (cast_in_range cast)) OutOfRange (omega arith)
    (refusing (not (duties_in_range (layout_of m.number) m.fields)) OutOfRange (omega arith)
    (refusing (not (lists_cast (row_of m.number) cast)) CastNotAllowed (omega arith)
    (fitting-in room (telegram_of (address_of cast) m.number (payload_of m)))))
