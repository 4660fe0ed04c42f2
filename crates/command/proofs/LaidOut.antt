-- A message that the code has laid out: its number, its payload, and whether its duties are in range.
-- Assumes nothing.
use mathlib.Core.Path.{◌≡◌, ◌∙◌, refl, ap}
use Prim.Native.Nat.{◌≤◌}
use native.Mathlib.Omega.{arith}
use lib.ListN.{length, take, length-append}
use lib.Seq.{take_at}
use Rattle.command.specs.Fields.{Layout, payload_by, duties_in_range}
use Rattle.command.specs.Commands.{Message, parts_by}
use Rattle.command.specs.declared.Parts.{Parts}

pub record LaidOut (l : Layout) (m : Message) (x : Parts) : Type 0 where
  pub number : x.number ≡ m.number
  pub fit : x.fit ≡ duties_in_range l m.fields
  pub size : x.size ≡ length (payload_by l m.fields)
  pub payload : take x.size x.bytes ≡ payload_by l m.fields
  pub within : x.size ≤ length x.bytes

pub laid_out_lem : (l : Layout) (m : Message) (x : Parts) → x ≡ parts_by l m → LaidOut l m x
laid_out_lem l m x e =
    record {
      number = ap (λ (y : Parts). y.number) e;
      fit = ap (λ (y : Parts). y.fit) e;
      size = ap (λ (y : Parts). y.size) e;
      payload = ap (λ (y : Parts). take y.size y.bytes) e ∙ take_at _ _ _ refl;
      within = rw e (simp length-append (omega arith));
    }
