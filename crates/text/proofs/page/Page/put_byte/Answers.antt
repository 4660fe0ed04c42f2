-- `text::Page::put_byte` meets its contract: the character stands behind what was there, or does not fit.
use Rattle.std.proofs.Common.{arith}
use Rattle.text.proofs.Appending.{full, stored}
use Rattle.text.proofs.page.Page.put_byte.Goals as goal

pub returns-then-at-self-clause-put : goal.returns-then-at-self-clause-put
returns-then-at-self-clause-put c = stored _ _ _ c.if-at-self.true

pub returns-else-at-self-clause-put : goal.returns-else-at-self-clause-put
returns-else-at-self-clause-put c = full _ _ _ (omega arith)
