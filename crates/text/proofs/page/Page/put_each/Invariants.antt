-- The bytes left, put behind what was put, give what all of them give; the page holds the same buffer.
use Rattle.std.proofs.Common.{◌≡◌, ℕ, List, map, drop}
use Rattle.text.specs.Putting.{text, appended_all}
use Rattle.text.proofs.page.Page.put_each.Given as goal

abbrev pub invariant-loop-b : goal.invariant-loop-b
invariant-loop-b g l =
    (l.self.room.ghost_name ≡ l.fn.self.room.ghost_name)
    × ((word : ℕ → List ℕ) → ((b : _) (w : _) → goal.F-post g l.form b w → g.W.AsSlice.items w ≡ word b) → appended_all (map word (drop l.b-index l.s)) (text l.self.used l.self.room.now) ≡ appended_all (map word l.s) (text l.fn.self.used l.fn.self.room.now))
