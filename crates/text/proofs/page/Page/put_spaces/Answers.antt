-- `text::Page::put_spaces` meets its contract: the word is as many spaces as are missing.
use Rattle.text.specs.Putting.{spaces}
use Rattle.text.proofs.page.Page.put_spaces.Goals as goal

pub returns-clause-put : goal.returns-clause-put
unfolding spaces
returns-clause-put c = rw (← c.saturating_sub.ensures, ← c.saturating_sub-missing.ensures, ← c.first.ensures) c.put.ensures.put
