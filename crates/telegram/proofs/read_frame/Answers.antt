-- `telegram::read_frame` meets its contract: at each return the tests that led there pick the line of `framing`.
-- Assumes nothing.
use mathlib.Core.Path.{◌∙◌, ap, ap₂}
use Prim.Native.Nat.{ℕ}
use native.Mathlib.Omega.{arith}
use Rattle.telegram.specs.Numbers.{done}
use Rattle.telegram.specs.Telegram.{command_in, size_of}
use Rattle.telegram.proofs.Reading.{frame-short, frame-preamble, frame-index, frame-count, frame-done}
use Rattle.telegram.proofs.read_frame.Goals as goal

pub returns-then-n-lt4 : goal.returns-then-n-lt4
returns-then-n-lt4 c = frame-short _ c.if-n-lt4.true

pub returns-then-b0-ne10 : goal.returns-then-b0-ne10
returns-then-b0-ne10 c = frame-preamble _ (omega arith) c.if-b0-ne10.true

pub returns-then-index-eq5 : goal.returns-then-index-eq5
returns-then-index-eq5 c = frame-index _ (omega arith) (omega arith) (omega arith)

pub returns-then-n-size : goal.returns-then-n-size
returns-then-n-size c = frame-count _ (omega arith) (omega arith) (λ e. c.if-index-eq5.false (omega arith)) (λ e. c.if-n-size.true (cc))

pub returns : goal.returns
returns c = let s = c.args.s.now in
    ap₂ (λ (a n : ℕ). done (record { address = record { 0 = a }; command = command_in s; size = n })) c.address_in.ensures
    (c.size_of-size.ensures.0 ∙ ap size_of c.index_in-index.ensures)
    ∙ frame-done s (omega arith) (omega arith) (λ e. c.if-index-eq5.false (omega arith)) (cc)
