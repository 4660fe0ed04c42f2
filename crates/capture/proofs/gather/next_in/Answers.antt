-- `capture::gather::next_in` meets its contract: what the bytes show decides. Assumes nothing.
use Rattle.std.proofs.Common.{◌≡◌, ℕ, ◌+◌, ◌-◌, ◌<◌, ◌≤◌, List, ◌++◌, length, take, drop, sym, ap, ◌∙◌, ⊎_elim, arith, take-append-drop, length-take-le, take-take, rules}
use Rattle.telegram.specs.Numbers.{Reason, bare, refused_for, reason_of, number_of}
use Rattle.telegram.specs.declared.Refusal.{Refusal}
use Rattle.telegram.proofs.Carrying.{bare-is}
use Rattle.telegram.specs.Telegram.{reading}
use Rattle.frame.specs.Frame.{Cutting, incomplete, broken, whole, cut_as, cutting}
use Rattle.frame.proofs.Cuts.{complete, whole-past, fault}
use Rattle.capture.specs.State.{stopped_for, State, state_of, resting}
use Rattle.capture.specs.Calls.{without, next_judged, next_cut}
use Rattle.capture.proofs.gather.next_in.Goals as goal
use Rattle.capture.proofs.gather.next_in.Goals.{In-Whole}

long : (c : In-Whole) → length c.args.bytes ≡ 12
long c = search rules

-- the bytes that are there
counted : (l : List ℕ) (n : ℕ) → length l ≡ 12 → n ≤ 12 → length (take n l) ≡ n
counted l n h k = length-take-le n l (omega arith)

-- what they show, by what the code was told
full : (c : In-Whole) → cutting (take c.args.n c.args.bytes) ≡ whole c.in-Whole.k
full c = sym c.cut_first.ensures ∙ ap cut_as c.in-Whole.is

enough : (c : In-Whole) → c.in-Whole.k ≤ c.args.n
enough c =
    omega (arith, (complete _ _ (full c)).count, counted c.args.bytes c.args.n (long c) c.requires.1)

most : (c : In-Whole) → c.in-Whole.k ≤ length c.args.bytes
most c = omega (arith, enough c, long c, c.requires.1)

-- a telegram of which the first bytes were carried
telegram : (c : In-Whole)
    → let a = c.args in
    let t = take c.in-Whole.k a.bytes in
    (a.carried.count ≤ length t) × (length t ≤ 12) × (a.at + (length t - a.carried.count) < 18446744073709551616)
telegram c =
    let s = take c.args.n c.args.bytes in
    let k = c.in-Whole.k in
    let m : length (take k c.args.bytes) ≡ k = length-take-le k _ (most c) in
    let n = c.args.carried.count in
    let j : cutting (take n s ++ drop n s) ≡ whole k = rw (take-append-drop n s) (full c) in
    let u : cutting (take n s) ≡ incomplete = ap cutting (take-take n c.args.n c.args.bytes c.requires.0) ∙ c.requires.3 in
    let h = whole-past (take n s) (drop n s) k u j in
    let i : length (take n s) ≡ n = length-take-le n s (omega (arith, counted c.args.bytes c.args.n (long c) c.requires.1, c.requires.0)) in
    (omega arith, omega (arith, enough c, c.requires.1), omega (arith, c.requires.4, enough c))

-- a refusal here is its number alone
broken-bare : (s : List ℕ) (e : Refusal) → cutting s ≡ broken (number_of e) → reason_of e ≡ bare (number_of e)
broken-bare s e q = bare-is e (λ z. ⊎_elim (λ a. omega arith) (λ a. omega arith) (fault s (number_of e) q))

-- the answer by what the bytes show
by : (s : List ℕ) (m : ℕ) (st : State) (at : ℕ) (k : Cutting) → cutting s ≡ k → next_cut k s m st at ≡ next_cut (cutting s) s m st at
by s m st at k e = ap (λ (x : Cutting). next_cut x s m st at) (sym e)

pub slice_bounds-bytes-end-in-Whole : goal.slice_bounds-bytes-end-in-Whole
slice_bounds-bytes-end-in-Whole c = most (goal.at.slice_bounds-bytes-end-in-Whole c).In-Whole

pub slice_bounds-next_whole-end : goal.slice_bounds-next_whole-end
slice_bounds-next_whole-end c = sym (length-take-le _ _ (most (goal.at.slice_bounds-next_whole-end c).In-Whole))

pub next_whole-requires : goal.next_whole-requires
next_whole-requires c = telegram (goal.at.next_whole-requires c).In-Whole

pub returns-in-Broken : goal.returns-in-Broken
returns-in-Broken c = let a = c.args in
    let e : Refusal = c.in-Broken.e in
    let q : cutting (take a.n a.bytes) ≡ broken (number_of e) = sym c.cut_first.ensures ∙ ap cut_as c.in-Broken.is in
    c.stop.ensures
    ∙ ap (λ (d : Reason). without (refused_for d) a.at (resting (stopped_for d) a.carried.position)) (broken-bare (take a.n a.bytes) e q)
    ∙ by (take a.n a.bytes) (a.n - a.carried.count) (state_of a.carried) a.at (broken (number_of e)) q

pub returns-in-Whole : goal.returns-in-Whole
returns-in-Whole c = let a = c.args in
    let k = c.in-Whole.k in
    c.next_whole.ensures
    ∙ ap (λ (n : ℕ). next_judged (reading (take k a.bytes)) (take k a.bytes) n (state_of a.carried) a.at) (length-take-le k _ (most (goal.at.returns-in-Whole c).In-Whole))
    ∙ ap (λ (x : List ℕ). next_judged (reading x) x k (state_of a.carried) a.at) (sym (take-take k a.n a.bytes (enough (goal.at.returns-in-Whole c).In-Whole)))
    ∙ by (take a.n a.bytes) (a.n - a.carried.count) (state_of a.carried) a.at (whole k) (full (goal.at.returns-in-Whole c).In-Whole)
