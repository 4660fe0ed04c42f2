-- `command::build_pwm` meets its contract: SETPWM goes to every cast, and is built as any command is.
-- Assumes nothing.
use mathlib.Core.Path.{◌≡◌, ◌∙◌, sym, ap}
use Prim.Native.Nat.{ℕ}
use Rattle.std.proofs.lemmas.Result.{err_from_is_err_and}
use lib.ListN.{length}
use Rattle.telegram.specs.Telegram.{building}
use Rattle.telegram.specs.Numbers.{counted, outcome_of, reason_of, refused_for}
use Rattle.telegram.specs.declared.Refusal.{Refusal}
use Rattle.telegram.proofs.Outcomes.{told-refused, told_same}
use Rattle.table.specs.Table.{row_of, lists_cast, acknowledged, plain_number}
use Rattle.command.specs.Fields.{layout_of}
use Rattle.command.specs.declared.Command.TheVariants.{SetPwm}
use Rattle.command.specs.declared.Parts.{Parts}
use Rattle.command.proofs.Built.{unranged, raw-built}
use Rattle.command.proofs.build_pwm.Goals as goal

pub returns-in_err-address : goal.returns-in_err-address
unfolding layout_of plain_number acknowledged
returns-in_err-address c =
    let a = c.args in
    let q = err_from_is_err_and c.from_residual.result c.from_residual.ensures.1 in
    let p = told-refused counted _ _
    (unranged (SetPwm a.r a.g a.b) a.cast (length a.out.now) c.pwm_parts-parts.ensures (sym c.in_err-address.ensures))
    (ap outcome_of q.1 ∙ ap (λ (e : Refusal). refused_for (reason_of e)) q.2) in
    record { result_value = p.0; out_after = p.1 }

pub returns : goal.returns
unfolding layout_of row_of plain_number acknowledged
returns c =
    let a = c.args in
    let room = length a.out.now in
    let number : 0x4F ≡ c.pwm_parts-parts.result.number = sym (ap (λ (x : Parts). x.number) c.pwm_parts-parts.ensures) in
    let p = told_same counted _
    (ap (λ (n : ℕ). building c.in_ok-address.address.0 n c.payload.result.now room) number
    ∙ raw-built (SetPwm a.r a.g a.b) a.cast room c.pwm_parts-parts.ensures (sym c.in_ok-address.ensures)
    (ap (λ (x : Parts). lists_cast (row_of x.number) a.cast) c.pwm_parts-parts.ensures) c.payload.ensures)
    c.build_telegram.ensures.result_value
    c.build_telegram.ensures.out_after in
    record { result_value = p.0; out_after = p.1 }
