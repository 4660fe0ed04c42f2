-- `capture::whole_chunk::feed` meets its contract: a chunk of one byte. Assumes nothing.
use Rattle.std.proofs.Common.{◌≡◌, ℕ, length, get_or, sym, ap, ◌∙◌, subst, arith, w8, Fits, rules}
use Rattle.telegram.specs.Telegram.{Bytes}
use Rattle.frame.proofs.Fronts.{bytes-none}
use Rattle.capture.specs.State.{Standing, checksums_in, state_of, is_left}
use Rattle.capture.specs.Run.{fed}
use Rattle.capture.specs.Calls.{Given}
use Rattle.capture.specs.Uncut.{Taken}
use Rattle.capture.proofs.Taken.{taken-fed}
use Rattle.capture.proofs.Feeding.{fed-next}
use Rattle.capture.proofs.whole_chunk.feed.Goals as goal
use Rattle.capture.proofs.whole_chunk.feed.Goals.{Start}

long : (c : Start) → length c.args.s.bytes ≡ 12
long c = search rules

byte : (c : Start) (k : ℕ) → Fits w8 (get_or c.args.s.bytes k 0)
byte c k = search rules

pub returns : goal.returns
returns c = let a = c.args in
    let s = state_of a.s in
    let e : state_of c.next_open.result.reading ≡ fed s a.b =
    ap (λ (g : Given). g.state) c.next_open.ensures ∙ fed-next s a.b c.requires.1 1 0 in
    let none = subst (λ (k : Standing). Bytes (checksums_in k)) (sym c.requires.1) bytes-none in
    let t : Taken s = record { long = long (goal.at.returns c).Start; each = λ i. (byte (goal.at.returns c).Start i).fits; sums = none; leaves = c.requires.0 } in
    (e, ap is_left e ∙ (taken-fed s a.b t (omega arith)).leaves)
