-- `command::build_command` meets its contract: its own tests, then the raw builder, which is left with the test of the room.
-- Assumes nothing.
use mathlib.Core.Path.{◌∙◌, refl, sym, ap}
use Rattle.std.proofs.lemmas.Result.{err_from_is_err_and}
use lib.ListN.{length}
use Rattle.telegram.specs.Numbers.{counted, outcome_of, reason_of, refused_for}
use Rattle.telegram.specs.declared.Refusal.{Refusal}
use Rattle.telegram.proofs.Outcomes.{told-refused, told_same}
use Rattle.command.proofs.Built.{unranged, unlisted, raw-built}
use Rattle.command.proofs.build_command.Goals as goal

pub returns-in_err-address : goal.returns-in_err-address
returns-in_err-address c =
    let a = c.args in
    let q = err_from_is_err_and c.from_residual.result c.from_residual.ensures.1 in
    let p = told-refused counted _ _
    (unranged a.command a.cast (length a.out.now) c.command_parts-parts.ensures (sym c.in_err-address.ensures))
    (ap outcome_of q.1 ∙ ap (λ (e : Refusal). refused_for (reason_of e)) q.2) in
    record { result_value = p.0; out_after = p.1 }

pub returns-then-not-lists_cast : goal.returns-then-not-lists_cast
returns-then-not-lists_cast c =
    let a = c.args in
    let p = told-refused counted _ _
    (unlisted a.command a.cast (length a.out.now) c.command_parts-parts.ensures (sym c.in_ok-address.ensures)
    (sym c.if-not-lists_cast.ensures))
    refl in
    record { result_value = p.0; out_after = p.1 }

pub returns : goal.returns
returns c =
    let a = c.args in
    let p = told_same counted _
    (raw-built a.command a.cast (length a.out.now) c.command_parts-parts.ensures (sym c.in_ok-address.ensures)
    (sym c.if-not-lists_cast.ensures) c.payload.ensures)
    c.build_telegram.ensures.result_value
    c.build_telegram.ensures.out_after in
    record { result_value = p.0; out_after = p.1 }
