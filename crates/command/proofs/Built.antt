-- What the two builders share: the address for a command laid out, and the telegram that the raw builder makes of both.
-- Assumes nothing.
use mathlib.Core.Path.{◌≡◌, ◌∙◌, sym, ap}
use mathlib.Core.Bool.{Bool, true, false}
use mathlib.Core.List.{List}
use Prim.Native.Nat.{ℕ}
use lib.ListN.{take}
use borrow.Author.Tests.{not-false}
use Rattle.telegram.specs.Numbers.{Reason, Outcome, refused_for, refused, done, refuse}
use Rattle.telegram.specs.Telegram.{building}
use Rattle.telegram.specs.declared.Address.{Address}
use Rattle.telegram.proofs.Outcomes.{never, done-one, refused-one, passed}
use Rattle.telegram.proofs.Building.{Sendable}
use Rattle.table.specs.Casts.{address_of, cast_in_range}
use Rattle.table.specs.Table.{row_of, lists_cast}
use Rattle.table.specs.declared.Cast.{Cast}
use Rattle.table.proofs.Destinations.{address-le}
use Rattle.command.specs.Fields.{layout_of, duties_in_range}
use Rattle.command.specs.Commands.{message_of, payload_of, laid_out, ranged_address, building_command}
use Rattle.command.specs.declared.Command.{Command}
use Rattle.command.specs.declared.Parts.{Parts}
use Rattle.command.proofs.LaidOut.{LaidOut, laid_out_lem}
use Rattle.command.proofs.Commanding.{Fit, command-cast, command-sent}
use Rattle.command.proofs.Sound.{sound}

-- Where two tests refuse, they refuse alike, whatever else is left.
alike : {A B : Type 0} (b₁ b₂ : Bool) (a : A) (rest : Outcome B) {d : Reason}
    → refuse b₁ 10 (refuse b₂ 10 (done a)) ≡ refused_for d → refuse b₁ 10 (refuse b₂ 10 rest) ≡ refused_for d
alike true b₂ a rest e = ap refused_for (refused-one e)
alike false true a rest e = ap refused_for (refused-one e)
alike false false a rest e = absurd (never (sym e))

-- What an address says of a command and its cast.
record Ranged (c : Command) (cast : Cast) (a : Address) : Type 0 where
  range : cast_in_range cast ≡ true
  duties : duties_in_range (layout_of (message_of c).number) (message_of c).fields ≡ true
  address : a.0 ≡ address_of cast

module _ (c : Command) (cast : Cast) (room : ℕ) {p : Parts} (e : p ≡ laid_out (message_of c)) where
  laid : LaidOut (layout_of (message_of c).number) (message_of c) p
  laid = laid_out_lem _ _ _ e

  moved : ranged_address (laid_out (message_of c)) cast ≡ ranged_address p cast
  moved = ap (λ (x : Parts). ranged_address x cast) (sym e)

  ranged : {a : Address} → ranged_address p cast ≡ done a → Ranged c cast a
  ranged h =
      let p₁ = passed _ _ _ (moved ∙ h) in
      let p₂ = passed _ _ _ p₁.1 in
      record {
        range = not-false _ p₁.0;
        duties = not-false _ p₂.0;
        address = sym (ap (λ (a : Address). a.0) (done-one p₂.1));
      }

  -- No address: the command is refused for the same reason.
  pub unranged : {d : Reason} → ranged_address p cast ≡ refused_for d → building_command (message_of c) cast room ≡ refused_for d
  unfolding building_command
  unranged h = alike _ _ _ _ (moved ∙ h)

  -- An address, but a cast that the table does not list.
  pub unlisted : {a : Address} → ranged_address p cast ≡ done a → lists_cast (row_of p.number) cast ≡ false
      → building_command (message_of c) cast room ≡ refused 7
  unlisted h f =
      let r = ranged h in
      command-cast _ _ _ r.range r.duties (ap (λ (n : ℕ). lists_cast (row_of n) cast) (sym laid.number) ∙ f)

  -- An address and a listed cast: the raw builder makes the telegram.
  pub raw-built : {a : Address} {b : List ℕ} → ranged_address p cast ≡ done a → lists_cast (row_of p.number) cast ≡ true
      → b ≡ take p.size p.bytes → building a.0 p.number b room ≡ building_command (message_of c) cast room
  raw-built h f k =
      let r = ranged h in
      let m = message_of c in
      let z = sound c in
      let g : Fit m cast =
      record { range = r.range; duties = r.duties; lists = ap (λ (n : ℕ). lists_cast (row_of n) cast) (sym laid.number) ∙ f } in
      let v : Sendable (address_of cast) m.number (payload_of m) =
      record { address = address-le cast r.range; command = z.number; size = z.length-listed } in
      command-sent m cast room g v r.address laid.number (k ∙ laid.payload)
