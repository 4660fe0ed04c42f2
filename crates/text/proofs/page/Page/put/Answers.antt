-- `text::Page::put` meets its contract: the word stands behind what was there, or does not fit.
use Rattle.std.proofs.Common.{arith}
use Rattle.text.proofs.Appending.{full, copied}
use Rattle.text.proofs.page.Page.put.Goals as goal
use Rattle.text.proofs.page.Page.put.Goals.{else-at-room-via-then-at-room+else-n-room, else-at-room-via-else-at-room}

pub returns-then-n-room-clause-put : goal.returns-then-n-room-clause-put
returns-then-n-room-clause-put c = copied c.args.word.now c.args.self.now.room.now c.args.self.now.used (omega arith) c.copy_from_slice.ensures.after

pub returns-else-at-room-clause-put : goal.returns-else-at-room-clause-put
returns-else-at-room-clause-put c =
    elim c.else-at-room.branch [
      | else-at-room-via-then-at-room+else-n-room w ↦ full _ _ _ (omega arith)
      | else-at-room-via-else-at-room w ↦ full _ _ _ (omega arith)
    ]
