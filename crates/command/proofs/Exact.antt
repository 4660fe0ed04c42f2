-- `message_of` loses nothing: two commands with the same number and fields are the same command.
-- Assumes nothing.
use mathlib.Core.Path.{◌≡◌, ◌∙◌, sym, ap, ap₂}
use Rattle.std.specs.Prelude.{Result, Ok, Err}
use Rattle.telegram.specs.Numbers.{done}
use Rattle.telegram.proofs.Outcomes.{never, done-one}
use Rattle.table.specs.declared.Cast.{Cast}
use Rattle.command.specs.Commands.{message_of, Sent, dissection_as}
use Rattle.command.specs.declared.Dissected.{Dissected}
use Rattle.telegram.specs.declared.Refusal.{Refusal}
use Rattle.command.specs.declared.Command.{Command}
use Rattle.command.proofs.Sound.{command-in, sound}

pub same-command : (c d : Command) → message_of c ≡ message_of d → c ≡ d
same-command c d e = sym (sound c).same ∙ ap command-in e ∙ (sound d).same

-- So the dissector's answer is known whole from its numbers: the command and the cast themselves.
pub same-dissection : (r : Result Dissected Refusal) (c : Command) (cast : Cast) → dissection_as r ≡ done (record { message = message_of c; cast = cast })
    → r ≡ Ok (record { command = c; cast = cast })
same-dissection (Err e) c cast h = absurd (never h)
same-dissection (Ok d) c cast h =
    let q = done-one h in
    let ec : d.command ≡ c = same-command d.command c (ap (λ (m : Sent). m.message) q) in
    let et : d.cast ≡ cast = ap (λ (m : Sent). m.cast) q in
    ap₂ (λ (x : Command) (k : Cast). Ok (record { command = x; cast = k })) ec et
