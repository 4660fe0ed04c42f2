-- `chain::delivery::answer` meets its contract.
-- Assumes nothing.
use mathlib.Core.Path.{◌∙◌, sym, ap}
use native.Mathlib.Omega.{arith}
use lib.Seq.{length-take-le}
use Rattle.telegram.specs.Telegram.{listed}
use Rattle.chain.proofs.Exits.{answer-built}
use Rattle.chain.proofs.delivery.answer.Goals as goal

pub returns : goal.returns
returns c = let a = c.args in
    let l = length-take-le a.payload.size a.payload.bytes c.requires.1 in
    answer-built a.a.0 a.order.number a.room.now _
    (record { address = c.requires.0; command = a.order.sendable; size = ap listed l ∙ c.requires.2 })
    (omega arith)
    (λ e. c.if-payload-eq0.false (sym l ∙ e))
    c.build_telegram.ensures.result_value
    c.build_telegram.ensures.out_after
