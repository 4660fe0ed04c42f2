-- `osp::telegrams::osp_build` meets its contract: what is built is short.
-- Assumes nothing.
use Rattle.osp.proofs.Giving.{count-short, built-short}
use Rattle.osp.proofs.telegrams.osp_build.Goals as goal

pub built_returned-requires : goal.built_returned-requires
built_returned-requires c = count-short c.build_telegram.result _ c.build_telegram.ensures.result_value (built-short _ _ _ _)
