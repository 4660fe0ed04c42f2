-- `capture::state::zero_from` meets its contract: the bytes are a number, low byte first, which is compared with a power of 256.
-- Assumes nothing.
use Rattle.std.proofs.Common.{◌≡◌, ℕ, ◌+◌, ◌*◌, ◌%◌, ◌^◌, ltb, length, get_or, drop, sym, ap, ◌∙◌, ap₂, arith, drop-drop, w8, Fits, rules, le-ltb}
use Rattle.telegram.specs.Telegram.{Bytes}
use Rattle.frame.proofs.Fronts.{bytes_drop}
use Rattle.capture.specs.State.{zeros}
use Rattle.capture.proofs.Clear.{low_of, below_power, low-last, low-all}
use Rattle.capture.proofs.state.zero_from.Goals as goal
use Rattle.capture.proofs.state.zero_from.Goals.{Else-from-ge8, Start}

long : (c : Start) → length c.args.bytes ≡ 12
long c = search rules

byte : (c : Start) (k : ℕ) → Fits w8 (get_or c.args.bytes k 0)
byte c k = search rules

each : (c : Start) → Bytes c.args.bytes
each c i = (byte c i).fits

-- the index is one of the first eight
limit : (c : Else-from-ge8) → c.power-limit.result ≡ 256 ^ c.args.from
limit c =
    let a = c.args in
    let e : a.from % 8 ≡ a.from = omega (arith, c.if-from-ge8.false) in
    c.power-limit.ensures.0 ∙ ap (λ (k : ℕ). 256 ^ k) e

-- the last four bytes decide
pub returns-then-from-ge8 : goal.returns-then-from-ge8
returns-then-from-ge8 c = let a = c.args in
    let e : 8 + a.from % 8 ≡ a.from = omega (arith, c.if-from-ge8.true, c.requires) in
    ap₂ (λ (x y : ℕ). ltb x y) (c.four-high.ensures.0 ∙ sym (low-last a.bytes (long (goal.at.returns-then-from-ge8 c).Start))) c.power-limit.ensures.0
    ∙ below_power (drop 8 a.bytes) (a.from % 8) (bytes_drop 8 a.bytes (each (goal.at.returns-then-from-ge8 c).Start))
    ∙ ap zeros (drop-drop (a.from % 8) 8 a.bytes ∙ ap (λ (k : ℕ). drop k a.bytes) e)

-- one of the last four bytes is not zero
pub returns-then-high-ne0 : goal.returns-then-high-ne0
returns-then-high-ne0 c = let a = c.args in
    let n = low-all a.bytes (long (goal.at.returns-then-high-ne0 c).Start) in
    sym (le-ltb (low_of a.bytes) (256 ^ a.from) (omega (arith, c.if-high-ne0.true, c.four-high.ensures.0, n, limit (goal.at.returns-then-high-ne0 c).Else-from-ge8, c.power-limit.ensures.1)))
    ∙ below_power a.bytes a.from (each (goal.at.returns-then-high-ne0 c).Start)

pub returns : goal.returns
returns c = let a = c.args in
    let n = low-all a.bytes (long (goal.at.returns c).Start) in
    let m : c.four-lower.result + c.four-upper.result * 4294967296 ≡ low_of a.bytes =
    omega (arith, c.if-high-ne0.false, c.four-high.ensures.0, c.four-upper.ensures.0, c.four-lower.ensures.0, n) in
    ap₂ (λ (x y : ℕ). ltb x y) m (limit (goal.at.returns c).Else-from-ge8) ∙ below_power a.bytes a.from (each (goal.at.returns c).Start)
