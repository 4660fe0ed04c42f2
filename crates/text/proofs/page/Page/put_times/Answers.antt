-- `text::Page::put_times` meets its contract: a turn puts the character once more, and at the end no time is left.
use Rattle.std.proofs.Common.{◌∙◌, arith}
use Rattle.text.proofs.Appending.{next-time, all-times}
use Rattle.text.proofs.page.Page.put_times.Goals as goal

pub loop-preserved : goal.loop-preserved
loop-preserved c = (c.put_byte.ensures.same_room ∙ c.loop.invariant.0, next-time _ _ c.loop.counter _ c.loop.invariant.1 (omega arith) c.put_byte.ensures.put)

pub returns-clause-put : goal.returns-clause-put
returns-clause-put c = all-times _ _ c.loop.counter _ c.loop.invariant.1 (omega arith)
