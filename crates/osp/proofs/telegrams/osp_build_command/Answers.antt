-- `osp::telegrams::osp_build_command` meets its contract: a number past 127 names no command.
-- Assumes nothing.
use mathlib.Core.Path.{refl, sym}
use native.Mathlib.Omega.{arith}
use Rattle.telegram.proofs.Outcomes.{told-refused, after-refused}
use Rattle.table.proofs.Table.{row-high}
use Rattle.command.proofs.Naming.{compose-unknown}
use Rattle.reader.specs.Interface.{returned}
use Rattle.osp.specs.Interface.{osp_build_command}
use Rattle.osp.proofs.telegrams.osp_build_command.Goals as goal

pub returns-then-command-gt127 : goal.returns-then-command-gt127
unfolding osp_build_command
returns-then-command-gt127 c =
    let p = told-refused returned _ _
    (after-refused _ _ (sym (compose-unknown _ _ (sym (row-high c.args.command (omega (arith, c.if-command-gt127.true)))))))
    refl in
    record { value = p.0; out_after = p.1 }
