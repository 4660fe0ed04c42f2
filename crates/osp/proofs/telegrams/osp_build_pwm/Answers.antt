-- `osp::telegrams::osp_build_pwm` meets its contract: past the tests what is left is the cast and the room.
-- Assumes nothing.
use mathlib.Core.Path.{◌∙◌, refl, sym, ap}
use native.Mathlib.Omega.{arith}
use lib.ListN.{length}
use Rattle.telegram.proofs.Outcomes.{told-refused, told_same, after-refused, after-done}
use Rattle.command.specs.Commands.{Message, building_command}
use Rattle.command.specs.declared.Command.TheVariants.{SetPwm}
use Rattle.reader.specs.Interface.{returned, packed}
use Rattle.osp.specs.Interface.{building_directed}
use Rattle.osp.proofs.BuildPwm.{pwm-directed, pwm-message}
use Rattle.osp.proofs.Giving.{count-short, command-built-short}
use Rattle.osp.proofs.telegrams.osp_build_pwm.Goals as goal

pub returns-in_default : goal.returns-in_default
unfolding building_directed
returns-in_default c =
    let a = c.args in
    let p = told-refused returned _ _
    (pwm-directed a.cast a.value a.modes a.red a.green a.blue (length a.out.now) (omega arith) (omega arith) (omega arith) (omega arith)
    ∙ after-refused _ _ (sym c.in_default.ensures))
    refl in
    record { value = p.0; out_after = p.1 }

pub built_returned-requires : goal.built_returned-requires
built_returned-requires c = count-short c.build_pwm.result _ c.build_pwm.ensures.result_value
    (command-built-short (SetPwm c.pwm_of_mode-r.result c.pwm_of_mode-g.result c.pwm_of_mode-b.result) c.in-Some.cast (length c.args.out.now))

pub returns : goal.returns
unfolding building_directed
returns c =
    let a = c.args in
    let p = told_same returned _
    (ap (λ (m : Message). building_command m c.in-Some.cast (length a.out.now))
    (pwm-message a.modes a.red a.green a.blue c.pwm_of_mode-r.result c.pwm_of_mode-g.result c.pwm_of_mode-b.result
    c.pwm_of_mode-r.ensures c.pwm_of_mode-g.ensures c.pwm_of_mode-b.ensures)
    ∙ sym
    (pwm-directed a.cast a.value a.modes a.red a.green a.blue (length a.out.now) (omega arith) (omega arith) (omega arith) (omega arith)
    ∙ after-done _ _ (sym c.in-Some.ensures)))
    (c.built_returned.ensures ∙ ap packed c.build_pwm.ensures.result_value)
    c.build_pwm.ensures.out_after in
    record { value = p.0; out_after = p.1 }
