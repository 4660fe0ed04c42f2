-- The command builder: a law for each of its answers, and what is known of a telegram that it built.
-- Callers cite these and do not unfold `building_command`.
-- Assumes nothing.
use mathlib.Core.Path.{◌≡◌, ◌∙◌, sym}
use mathlib.Core.Bool.{true, false}
use mathlib.Core.List.{List}
use Prim.Native.Nat.{ℕ}
use lib.Dec.{ltb}
use lib.ListN.{length}
use borrow.Author.Tests.{not-false}
use Rattle.telegram.specs.Numbers.{refused, done, fitted}
use Rattle.telegram.specs.Telegram.{building, telegram_of}
use Rattle.telegram.proofs.Outcomes.{done-one, passed}
use Rattle.telegram.proofs.Building.{Sendable, build-sendable}
use Rattle.table.specs.Casts.{address_of, cast_in_range}
use Rattle.table.specs.Table.{row_of, lists_cast}
use Rattle.table.specs.declared.Cast.{Cast}
use Rattle.command.specs.Fields.{layout_of, duties_in_range}
use Rattle.command.specs.Commands.{Message, payload_of, building_command}

-- What the tests of the command builder ask of a message and its cast.
pub record Fit (m : Message) (cast : Cast) : Type 0 where
  pub range : cast_in_range cast ≡ true
  pub duties : duties_in_range (layout_of m.number) m.fields ≡ true
  pub lists : lists_cast (row_of m.number) cast ≡ true

module _ (m : Message) (cast : Cast) (room : ℕ) where
  pub command-cast : cast_in_range cast ≡ true → duties_in_range (layout_of m.number) m.fields ≡ true
      → lists_cast (row_of m.number) cast ≡ false → building_command m cast room ≡ refused 7
  unfolding building_command
  command-cast h₁ h₂ h = simp (h₁, h₂, h)

  -- Of a message that fits, only the room is left to test.
  command-fit : Fit m cast
      → building_command m cast room
      ≡ fitted room (telegram_of (address_of cast) m.number (payload_of m))
  unfolding building_command
  command-fit f = simp (f.range, f.duties, f.lists)

  -- A message that fits and can be sent is built by the raw builder.
  pub command-sent : {a n : ℕ} {p : List ℕ} → Fit m cast → Sendable (address_of cast) m.number (payload_of m)
      → a ≡ address_of cast → n ≡ m.number → p ≡ payload_of m → building a n p room ≡ building_command m cast room
  command-sent {a} {n} {p} f v ea en ep =
      rw (ea, en, ep)
      (build-sendable (address_of cast) m.number (payload_of m) room v ∙ sym (command-fit f))

  -- What was built fits, and is its telegram.
  pub commanded : {s : List ℕ} → building_command m cast room ≡ done s
      → Fit m cast × (telegram_of (address_of cast) m.number (payload_of m) ≡ s)
  unfolding building_command
  commanded e =
      let p₁ = passed _ _ _ e in
      let p₂ = passed _ _ _ p₁.1 in
      let p₃ = passed _ _ _ p₂.1 in
      let s = telegram_of (address_of cast) m.number (payload_of m) in
      let p₄ = passed (ltb room (length s)) 9 (done s) p₃.1 in (
        record { range = not-false _ p₁.0; duties = not-false _ p₂.0; lists = not-false _ p₃.0 },
        done-one p₄.1,
      )
