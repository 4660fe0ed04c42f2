-- The times left, behind what was put, give what all of them give; the page holds the same buffer.
use Rattle.std.proofs.Common.{◌≡◌, ◌-◌, [], ◌∷◌, replicate}
use Rattle.text.specs.Putting.{text, appended_all}
use Rattle.text.proofs.page.Page.put_times.Given as goal

abbrev pub invariant-loop : goal.invariant-loop
invariant-loop l =
    (l.self.room.ghost_name ≡ l.fn.self.room.ghost_name)
    × (appended_all (replicate (l.n - l.counter) (l.b ∷ [])) (text l.self.used l.self.room.now) ≡ appended_all (replicate l.n (l.b ∷ [])) (text l.fn.self.used l.fn.self.room.now))
