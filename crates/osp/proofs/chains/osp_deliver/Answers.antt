-- `osp::chains::osp_deliver` meets its contract.
-- Assumes nothing.
use mathlib.Core.Path.{◌∙◌, ap}
use Rattle.reader.specs.Interface.{packed}
use lib.ListN.{length}
use Rattle.chain.specs.Memory.{delivered}
use Rattle.osp.proofs.ChainCalls.{counted-short}
use Rattle.chain.proofs.Lengths.{short-delivered}
use Rattle.osp.proofs.chains.osp_deliver.Goals as goal

pub delivered_returned-requires : goal.delivered_returned-requires
delivered_returned-requires c = let a = c.args in
    let n = length a.out.now in counted-short (delivered a.mem.now a.s.now n).outcome (short-delivered a.mem.now a.s.now n) c.deliver.ensures.answer

pub returns : goal.returns
returns c = record { value = c.delivered_returned.ensures ∙ ap packed c.deliver.ensures.answer; mem_after = c.deliver.ensures.memory; out_after = c.deliver.ensures.room }
