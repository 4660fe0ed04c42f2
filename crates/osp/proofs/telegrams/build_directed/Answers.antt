-- `osp::telegrams::build_directed` meets its contract: what is built is short.
-- Assumes nothing.
use lib.ListN.{length}
use Rattle.osp.proofs.Giving.{count-short, command-built-short}
use Rattle.osp.proofs.telegrams.build_directed.Goals as goal

pub built_returned-requires : goal.built_returned-requires
built_returned-requires c =
    let a = c.args in
    count-short c.build_command.result _ c.build_command.ensures.result_value
    (command-built-short a.c c.in-Some.cast (length a.out.now))
