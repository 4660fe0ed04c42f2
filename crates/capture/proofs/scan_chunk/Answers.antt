-- `capture::scan_chunk` meets its contract: the state is refused, an open reading reads on, another repeats its answer. Assumes nothing.
use Rattle.std.proofs.Common.{◌≡◌, ℕ, true, sym, ap, ◌∙◌}
use Rattle.telegram.specs.Numbers.{Outcome}
use Rattle.capture.specs.State.{State, state_of, is_left}
use Rattle.capture.specs.Calls.{Reply, answer_of, Scanned, scanned}
use Rattle.capture.proofs.States.{scan-not, scan-left}
use Rattle.capture.proofs.Repeating.{repeats}
use Rattle.capture.proofs.scan_chunk.Goals as goal
use Rattle.capture.proofs.scan_chunk.Goals.{Else-not-is_left}

good : (c : Else-not-is_left) → is_left (state_of c.args.carried) ≡ true
good c = sym c.is_left.ensures ∙ c.if-not-is_left.false

abbrev told : Outcome Reply → ℕ → ℕ → State → Scanned
told o n p s = record { answer = o; telegrams = n; position = p; state = s }

-- what was read, part by part
read : (z : State) {o : Outcome Reply} {n m p : ℕ} {s : State} → o ≡ answer_of s.standing → n ≡ m → p ≡ z.position → s ≡ z
    → told o n p s ≡ scanned m z
read z a b c d = λ i. told ((a ∙ ap (λ (x : State). answer_of x.standing) d) i) (b i) (c i) (d i)

pub returns-then-not-is_left : goal.returns-then-not-is_left
returns-then-not-is_left c = c.still_scan.ensures ∙ scan-not _ _ (sym c.is_left.ensures ∙ c.if-not-is_left.true)

pub returns-in_default : goal.returns-in_default
returns-in_default c = let a = c.args in
    let z = state_of a.carried in
    c.still_scan-in_default.ensures ∙ ap (λ (o : Outcome Reply). told o 0 z.position z) c.answer_of.ensures
    ∙ sym ((repeats a.carried (good (goal.at.returns-in_default c).Else-not-is_left) c.in_default.not-Open).scanning a.chunk.now)

pub returns : goal.returns
returns c = let r = c.scan_open-t.ensures in
    read _ c.answer_of-2.ensures r.telegrams_value r.position_value.0 r.position_value.1 ∙ scan-left _ _ (good (goal.at.returns c).Else-not-is_left)
