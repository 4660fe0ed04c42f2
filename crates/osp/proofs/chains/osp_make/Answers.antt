-- `osp::chains::osp_make` meets its contract.
-- Assumes nothing.
use mathlib.Core.Path.{◌∙◌, ap}
use Rattle.reader.specs.Interface.{packed}
use Rattle.osp.specs.Interface.{defaults_from}
use Rattle.chain.specs.Memory.{made}
use Rattle.osp.proofs.ChainCalls.{silent-short}
use Rattle.osp.proofs.chains.osp_make.Goals as goal

pub delivered_returned-requires : goal.delivered_returned-requires
delivered_returned-requires c = let a = c.args in
    silent-short (made a.mem.now a.count (defaults_from a.setup a.t0 a.t1 a.t2)) c.make.ensures.answer

pub returns : goal.returns
returns c = record { value = c.delivered_returned.ensures ∙ ap packed c.make.ensures.answer; mem_after = c.make.ensures.memory }
