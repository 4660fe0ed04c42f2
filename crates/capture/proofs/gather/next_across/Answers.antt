-- `capture::gather::next_across` meets its contract: twelve bytes decide. Assumes nothing.
use Rattle.std.proofs.Common.{◌≡◌, ℕ, ◌+◌, ◌-◌, ◌<◌, ◌≤◌, List, ◌++◌, length, get_or, take, drop, sym, ap, ◌∙◌, arith, length-append, length-drop, length-take, take-take, take_at, w8, Fits, rules}
use Rattle.telegram.specs.Telegram.{Bytes}
use Rattle.frame.specs.Frame.{incomplete, cutting}
use Rattle.frame.proofs.Fronts.{bytes-append, bytes_take, bytes_drop}
use Rattle.capture.specs.State.{state_of, padded, carried_in}
use Rattle.capture.specs.Calls.{next_cut}
use Rattle.capture.proofs.States.{left, carried-count, carried-incomplete}
use Rattle.capture.proofs.Padding.{padded-behind}
use Rattle.capture.proofs.Twelve.{up-to-twelve}
use Rattle.capture.proofs.gather.next_across.Goals as goal
use Rattle.capture.proofs.gather.next_across.Goals.{After-placed-bytes}

long : (c : After-placed-bytes) → length c.args.carried.bytes ≡ 12
long c = search rules

byte : (c : After-placed-bytes) (k : ℕ) → Fits w8 (get_or c.args.carried.bytes k 0)
byte c k = search rules

-- the bytes carried with m of the chunk behind them
gathered : (b l : List ℕ) (n m : ℕ) {r : List ℕ} → length b ≡ 12 → n ≤ 12 → m ≤ length l
    → r ≡ (take n b ++ take m l) ++ drop (n + length (take m l)) b → take (n + m) r ≡ take n b ++ take m l
gathered b l n m h g k e =
    let q : length (take n b ++ take m l) ≡ n + m = simp (length-append, length-take) (omega arith) in
    ap (λ (x : List ℕ). take (n + m) x) e ∙ take_at (take n b ++ take m l) _ (n + m) q

-- the bytes that the next telegram is taken from, and how many of the chunk they are
taken : (c : After-placed-bytes)
    → let a = c.args in
    let b = carried_in (state_of a.carried) ++ take c.min-m.result (drop a.at a.chunk.now) in
    (take (a.carried.count + c.min-m.result) c.placed-bytes.result ≡ b) × (length b ≡ a.carried.count + c.min-m.result)
taken c =
    let a = c.args in
    let k = c.min-m.result in
    let l = drop a.at a.chunk.now in
    let d : length l ≡ length a.chunk.now - a.at = length-drop a.at a.chunk.now in
    let e : a.at + k - a.at ≡ k = omega arith in (
      gathered a.carried.bytes l a.carried.count k (long c) (omega (arith, (left _ c.requires.0).few)) (omega arith) (rw e at c.placed-bytes.ensures),
      simp (length-append, length-take) (omega (arith, (left _ c.requires.0).few, long c)),
    )

-- the count of the bytes carried, and that they are unfinished
counted : (c : After-placed-bytes) → length (carried_in (state_of c.args.carried)) ≡ c.args.carried.count
counted c = carried-count (state_of c.args.carried) (long c) c.requires.0

asked : (c : After-placed-bytes)
    → let a = c.args in
    let n = a.carried.count + c.min-m.result in
    let r = c.placed-bytes.result in
    (a.carried.count ≤ n) × (n ≤ 12) × (padded (take n r) ≡ r) × (cutting (take a.carried.count r) ≡ incomplete) × (a.at + (n - a.carried.count) < 18446744073709551616)
asked c =
    let a = c.args in
    let s = state_of a.carried in
    let k = c.min-m.result in
    let l = drop a.at a.chunk.now in
    let r = c.placed-bytes.result in
    let t = taken c in
    let q : a.at + k - a.at ≡ k = omega arith in
    let p : r ≡ padded (carried_in s ++ take k l) = rw q at c.placed-bytes.ensures ∙ padded-behind s (long c) c.requires.0 (take k l) in
    let e : take a.carried.count r ≡ carried_in s =
    sym (take-take a.carried.count (a.carried.count + k) r (omega arith)) ∙ ap (λ (x : List ℕ). take a.carried.count x) t.0
    ∙ take_at _ _ a.carried.count (counted c) in (
      omega arith,
      omega (arith, (left _ c.requires.0).few),
      ap padded t.0 ∙ sym p,
      ap cutting e ∙ carried-incomplete s c.requires.0 c.requires.1,
      omega arith,
    )

-- each is a byte
each : (c : After-placed-bytes) → let a = c.args in Bytes (carried_in (state_of a.carried) ++ drop a.at a.chunk.now)
each c =
    let a = c.args in
    bytes-append (carried_in (state_of a.carried)) (drop a.at a.chunk.now) (bytes_take a.carried.count a.carried.bytes (λ i. (byte c i).fits))
    (bytes_drop a.at a.chunk.now (λ i. omega (arith, c.type_inv.chunk i)))

pub overflow_sub-carried : goal.overflow_sub-carried
overflow_sub-carried c = omega (arith, (left _ c.requires.0).few)

pub placed-bytes-requires : goal.placed-bytes-requires
placed-bytes-requires c = simp length-take (omega (arith, (left _ c.requires.0).few))

pub next_in-requires : goal.next_in-requires
next_in-requires c = asked (goal.at.next_in-requires c).After-placed-bytes

pub returns : goal.returns
returns c = let a = c.args in
    let k = c.min-m.result in
    let s = state_of a.carried in
    let l = drop a.at a.chunk.now in
    let u = take (a.carried.count + k) c.placed-bytes.result in
    let t = taken (goal.at.returns c).After-placed-bytes in
    let e : a.carried.count + k - a.carried.count ≡ k = omega arith in
    let d : length l ≡ length a.chunk.now - a.at = length-drop a.at a.chunk.now in
    let g : length (carried_in s) ≡ a.carried.count = counted (goal.at.returns c).After-placed-bytes in
    c.next_in.ensures
    ∙ ap (λ (n : ℕ). next_cut (cutting u) u n s a.at) e
    ∙ ap (λ (x : List ℕ). next_cut (cutting x) x k s a.at) t.0
    ∙ up-to-twelve (carried_in s) l (each (goal.at.returns c).After-placed-bytes) (omega (arith, (left _ c.requires.0).few)) s a.at k (rw (g, d) c.min-m.ensures)
