-- `text::Page::put_each` meets its contract: a turn puts the next byte's word, and at the end none is left.
use Rattle.std.proofs.Common.{◌∙◌, arith}
use Rattle.text.proofs.Appending.{next-byte, all-bytes}
use Rattle.text.proofs.page.Page.put_each.Goals as goal

pub loop-b-preserved : goal.loop-b-preserved
loop-b-preserved g c = (
  c.put.ensures.same_room ∙ c.loop-b.invariant.0,
  λ word h. next-byte word _ c.loop-b.b-index _ (c.loop-b.invariant.1 word h) (omega arith) (rw (c.as_slice.ensures, h _ _ c.form.ensures) at c.put.ensures.put),
)

pub returns-clause-put : goal.returns-clause-put
returns-clause-put g c = λ word h. all-bytes word _ c.loop-b.b-index _ (c.loop-b.invariant.1 word h) (omega arith)
