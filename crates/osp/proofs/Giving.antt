-- What is given back over the C interface: results that fit the room, and results that do not.
-- Assumes nothing.
use mathlib.Core.Path.{◌≡◌, ◌∙◌, refl, sym, ap}
use mathlib.Core.List.{List}
use Prim.Native.Nat.{ℕ, ◌<◌}
use native.Mathlib.Omega.{arith}
use lib.ListN.{length}
use Rattle.telegram.specs.Numbers.{Outcome, refused_for, done, counted, outcome_of}
use Rattle.telegram.specs.Telegram.{building}
use Rattle.telegram.specs.declared.Refusal.{Refusal}
use Rattle.std.specs.Prelude.{Result}
use Rattle.telegram.proofs.Building.{listed_le, telegram-length, built}
use Rattle.telegram.proofs.Outcomes.{never, done-one}
use Rattle.table.specs.Casts.{address_of}
use Rattle.table.specs.declared.Cast.{Cast}
use Rattle.command.specs.Commands.{message_of, payload_of, building_command}
use Rattle.command.specs.declared.Command.{Command}
use Rattle.command.proofs.Commanding.{commanded}
use Rattle.command.proofs.Sound.{command-short}

-- The count of a builder's answer is short, where what it builds is.
pub count-short : (b : Result ℕ Refusal) (o : Outcome (List ℕ)) → outcome_of b ≡ counted o → ((s : List ℕ) → o ≡ done s → length s < 65536)
    → (n : ℕ) → outcome_of b ≡ done n → n < 65536
count-short b (refused_for r) e h n d = absurd (never (sym e ∙ d))
count-short b (done s) e h n d = let l : length s ≡ n = done-one (sym e ∙ d) in omega (arith, h s refl)

-- What the two builders build is short.
pub built-short : (a c : ℕ) (p : List ℕ) (room : ℕ) (s : List ℕ) → building a c p room ≡ done s → length s < 65536
built-short a c p room s e =
    let q = built a c p room e in
    omega (arith, sym (ap length q.1) ∙ telegram-length a c p, listed_le (length p) q.0.size)

pub command-built-short : (c : Command) (cast : Cast) (room : ℕ) (s : List ℕ) → building_command (message_of c) cast room ≡ done s → length s < 65536
command-built-short c cast room s e =
    let m = message_of c in
    let q = commanded m cast room e in
    omega (arith, sym (ap length q.1) ∙ telegram-length (address_of cast) m.number (payload_of m), command-short c)
