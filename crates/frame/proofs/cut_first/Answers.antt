-- `frame::cut_first` meets its contract: at each return the tests that led there pick the line of `cutting`.
-- Assumes nothing.
use mathlib.Core.Path.{◌≡◌, ◌∙◌, ap}
use Prim.Native.Nat.{ℕ, ◌+◌}
use native.Mathlib.Omega.{arith}
use Rattle.telegram.specs.Telegram.{index_in, size_of}
use Rattle.frame.specs.Frame.{whole}
use Rattle.frame.proofs.Cuts.{cut-none, cut-preamble, cut-few, cut-index, cut-part, cut-whole}
use Rattle.frame.proofs.cut_first.Goals as goal
use Rattle.frame.proofs.cut_first.Goals.{After-size_of-total}

-- the size that the index in the bytes means
sized : (c : After-size_of-total) → c.size_of-total.result ≡ size_of (index_in c.args.s.now)
sized c = c.size_of-total.ensures.0 ∙ ap size_of c.index_in-index.ensures

pub returns-then-n-lt1 : goal.returns-then-n-lt1
returns-then-n-lt1 c = cut-none _ c.if-n-lt1.true

pub returns-then-s-ne10 : goal.returns-then-s-ne10
returns-then-s-ne10 c = cut-preamble _ (omega arith) c.if-s-ne10.true

pub returns-then-n-lt3 : goal.returns-then-n-lt3
returns-then-n-lt3 c = cut-few _ (omega arith) (omega arith) (omega arith)

pub returns-then-index-eq5 : goal.returns-then-index-eq5
returns-then-index-eq5 c = cut-index _ (omega arith) (omega arith) (omega arith) (omega arith)

pub returns-then-n-total : goal.returns-then-n-total
returns-then-n-total c = cut-part _ (omega arith) (omega arith) (omega arith) (λ e. c.if-index-eq5.false (omega arith)) (omega (arith, sized (goal.at.returns-then-n-total c).After-size_of-total))

pub returns : goal.returns
returns c = ap (λ (n : ℕ). whole (4 + n)) (sized (goal.at.returns c).After-size_of-total)
    ∙ cut-whole _ (omega arith) (omega arith) (omega arith) (λ e. c.if-index-eq5.false (omega arith)) (omega (arith, sized (goal.at.returns c).After-size_of-total))
