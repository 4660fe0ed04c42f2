-- `osp::chains::osp_sense` meets its contract.
-- Assumes nothing.
use mathlib.Core.Path.{◌∙◌, ap}
use Rattle.reader.specs.Interface.{packed}
use Rattle.chain.specs.Memory.{sensed_in}
use Rattle.osp.proofs.ChainCalls.{silent-short}
use Rattle.osp.proofs.chains.osp_sense.Goals as goal

pub delivered_returned-requires : goal.delivered_returned-requires
delivered_returned-requires c = let a = c.args in
    silent-short (sensed_in a.mem.now a.place a.temperature a.faults) c.sense.ensures.answer

pub returns : goal.returns
returns c = record { value = c.delivered_returned.ensures ∙ ap packed c.sense.ensures.answer; mem_after = c.sense.ensures.memory }
