-- The bytes of an answer as the code hands them over, and how many they are.
-- Assumes nothing.
use mathlib.Core.Path.{◌≡◌, ◌∙◌, refl, ap}
use mathlib.Core.Bool.{true}
use mathlib.Core.List.{List, [], ◌∷◌}
use Prim.Native.Nat.{ℕ, ◌≤◌}
use native.Mathlib.Omega.{arith}
use lib.Dec.{eqb}
use lib.ListN.{length, take, length-append}
use lib.Seq.{take_at}
use borrow.Author.Tests.{eqb-true}
use Rattle.telegram.specs.Numbers.{done}
use Rattle.telegram.specs.Telegram.{listed}
use Rattle.table.specs.Table.{row_of, acknowledged, answer_size_of}
use Rattle.table.proofs.Table.{answer-listed}
use Rattle.table.proofs.Acknowledged.{acknowledged-answer}
use Rattle.command.specs.Commands.{Message}
use Rattle.rules.specs.declared.Defaults.{Defaults}
use Rattle.rules.specs.declared.Lamp.{Lamp}
use Rattle.rules.specs.Lamp.{obeys, told_plain, answered}
use Rattle.telegram.proofs.Outcomes.{where-true, either}
use Rattle.lamp.specs.declared.Payload.{Payload}
use Rattle.lamp.specs.Reactions.{padded}

-- What is known of bytes that were handed over.
pub record Handed (p : List ℕ) (x : Payload) : Type 0 where
  pub size : x.size ≡ length p
  pub payload : take x.size x.bytes ≡ p
  pub within : x.size ≤ length x.bytes

pub handed : (p : List ℕ) (x : Payload) → x ≡ padded p → Handed p x
handed p x e =
    record {
      size = ap (λ (y : Payload). y.size) e;
      payload = ap (λ (y : Payload). take y.size y.bytes) e ∙ take_at _ _ _ refl;
      within = rw e (simp length-append (omega arith));
    }

-- Bytes that answer a number: none, or as many as the table has for it.
abbrev pub Sized : ℕ → List ℕ → Type 0
Sized n [] = Unit {0}
Sized n (x ∷ xs) = answer_size_of n ≡ done (length (x ∷ xs))

-- What a lamp answers is so.
pub answered-sized : (d : Defaults) (m : Message) (l : Lamp) → Sized m.number (answered d m l)
unfolding answered told_plain row_of
answered-sized d m l =
    either (Sized n) (obeys n l.state)
    (where-true (Sized n) (acknowledged n) (acknowledged-answer n)
    (where-true (Sized n) (eqb n 0x07) (size 0x07 refl)
    (where-true (Sized n) (eqb n 0x0C) (size 0x0C refl)
    (where-true (Sized n) (eqb n 0x40) (size 0x40 refl)
    (where-true (Sized n) (eqb n 0x42) (size 0x42 refl)
    (where-true (Sized n) (eqb n 0x48) (size 0x48 refl)
    (where-true (Sized n) (eqb n 0x4A) (size 0x4A refl)
    (where-true (Sized n) (eqb n 0x4C) (size 0x4C refl)
    (where-true (Sized n) (eqb n 0x4E) (size 0x4E refl)
    tt)))))))))
    tt
  where
    n : ℕ
    n = m.number

    size : {j : ℕ} (k : ℕ) → answer_size_of k ≡ done j → eqb n k ≡ true → answer_size_of n ≡ done j
    size k s e = ap answer_size_of (eqb-true n k e) ∙ s

-- So an answer has as many bytes as a telegram may carry.
pub answered-listed : (d : Defaults) (m : Message) (l : Lamp) → listed (length (answered d m l)) ≡ true
answered-listed d m l = go (answered d m l) (answered-sized d m l)
  where
    go : (p : List ℕ) → Sized m.number p → listed (length p) ≡ true
    go [] s = refl
    go (x ∷ xs) s = (answer-listed m.number (length (x ∷ xs)) s).1
