-- `reader::passing::pass` meets its contract: there is room for the telegram, or nothing is touched. Assumes nothing.
use Rattle.std.proofs.Common.{◌≡◌, ℕ, ◌+◌, ◌-◌, ◌*◌, ◌<◌, ◌≤◌, List, ◌++◌, length, take, drop, sym, refl, ap, ◌∙◌, arith, length-drop, length-take-le, rules, le-ltb, lt-ltb}
use Rattle.telegram.specs.Telegram.{Bytes}
use Rattle.telegram.proofs.Reading.{accepted-size}
use Rattle.telegram.proofs.Outcomes.{fit_small, fit-done, told-refused, told-done}
use Rattle.frame.proofs.Fronts.{bytes_take, bytes_drop}
use Rattle.capture.specs.Run.{wrapped}
use Rattle.reader.specs.Layout.{position_bytes}
use Rattle.reader.specs.Interface.{returned, reader_next}
use Rattle.reader.proofs.AtRest.{passed, rest-long, rest-called}
use Rattle.reader.proofs.Exits.{called}
use Rattle.reader.proofs.passing.pass.Goals as goal
use Rattle.reader.proofs.passing.pass.Goals.{Start}

-- the payload has at most 8 bytes, and the telegram lies in the chunk
small : (c : Start) → Bytes c.args.chunk.now → c.args.t.size ≤ 8
small c y =
    let a = c.args in
    accepted-size _ a.t (bytes_take (4 + a.t.size) (drop a.at.now a.chunk.now) (bytes_drop a.at.now a.chunk.now y)) c.requires.1

inside : (c : Start) → 4 + c.args.t.size ≤ length c.args.chunk.now - c.args.at.now
inside c =
    let a = c.args in
    omega (arith, rest-long a.reader.now c.requires.0 a.chunk.now a.at.now a.t c.requires.1, length-drop a.at.now a.chunk.now)

abbrev part : Start → List ℕ
part c = take (4 + c.args.t.size) (drop c.args.at.now c.args.chunk.now)

long : (c : Start) → length (part c) ≡ 4 + c.args.t.size
long c = length-take-le (4 + c.args.t.size) _ (rest-long c.args.reader.now c.requires.0 c.args.chunk.now c.args.at.now c.args.t c.requires.1)

-- what the call gives and leaves
call : (c : Start)
    → let a = c.args in
    passed a.reader.now a.chunk.now a.at.now a.t (length a.out.now) ≡ reader_next a.reader.now a.chunk.now a.at.now (length a.out.now)
call c = rest-called c.args.reader.now c.requires.0 c.args.chunk.now c.args.at.now c.args.t c.requires.1 (length c.args.out.now)

pub overflow_add-total : goal.overflow_add-total
overflow_add-total c = record { fits = omega (arith, small (goal.at.overflow_add-total c).Start (λ i. search rules)) }

pub returns-then-out-total : goal.returns-then-out-total
returns-then-out-total c =
    let s = (goal.at.returns-then-out-total c).Start in
    let out = c.args.out.now in
    let h : length out < length (part s) = omega (arith, c.if-out-total.true, long s) in
    let r = told-refused returned out _ (fit_small (length out) (part s) h) refl in
    let p = called (call s) out r.0 (sym (simp (lt-ltb _ _ h))) (sym (simp (lt-ltb _ _ h))) r.1 in
    record { value = p.0; reader_after = p.1.0; at_after = p.1.1.0; out_after = p.1.1.1 }

pub overflow_add-end : goal.overflow_add-end
overflow_add-end c = record { fits = omega (arith, inside (goal.at.overflow_add-end c).Start) }

pub slice_bounds-copy_from_slice-end-3 : goal.slice_bounds-copy_from_slice-end-3
slice_bounds-copy_from_slice-end-3 c =
    let h : c.args.at.now + (4 + c.args.t.size) ≤ length c.args.chunk.now = omega (arith, inside (goal.at.slice_bounds-copy_from_slice-end-3 c).Start) in
    search rules

pub overflow_cast-result : goal.overflow_cast-result
overflow_cast-result c = record { fits = omega (arith, small (goal.at.overflow_cast-result c).Start (λ i. search rules)) }

pub overflow_mul-result : goal.overflow_mul-result
overflow_mul-result c = record { fits = omega (arith, small (goal.at.overflow_mul-result c).Start (λ i. search rules)) }

pub returns : goal.returns
returns c =
    let s = (goal.at.returns c).Start in
    let reader = c.args.reader.now in
    let out = c.args.out.now in
    let u = part s in
    let l = long s in
    let z : c.args.at.now + (4 + c.args.t.size) - c.args.at.now ≡ 4 + c.args.t.size = omega arith in
    let h : length u ≤ length out = omega (arith, c.if-out-total.false, l) in
    let f = ap (λ (x : List ℕ). x ++ drop (4 + c.args.t.size) out) (rw z at c.copy_from_slice.ensures.after) ∙ ap (λ (k : ℕ). u ++ drop k out) (sym l) in
    let r = told-done returned out _ (fit-done (length out) u h) (ap (λ (x : ℕ). x * 256) (sym l)) f in
    let m = ap (λ (x : ℕ). (take 2 reader ++ position_bytes (wrapped (x + (4 + c.args.t.size)))) ++ drop 10 reader) c.position_in.ensures in
    let p = called (call s) out r.0 (c.put_position.ensures ∙ m ∙ sym (simp (le-ltb _ _ h))) (sym (simp (le-ltb _ _ h))) r.1 in
    record { value = p.0; reader_after = p.1.0; at_after = p.1.1.0; out_after = p.1.1.1 }
