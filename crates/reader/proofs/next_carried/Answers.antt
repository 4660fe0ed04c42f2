-- `reader::next_carried` meets its contract: memory holds no state, or what the reading answered decides. Assumes nothing.
use Rattle.std.proofs.Common.{◌≡◌, ℕ, ◌+◌, ◌*◌, ◌<◌, ◌≤◌, Result, Ok, false, cond, ltb, List, [], ◌++◌, length, get_or, take, drop, sym, refl, ap, ◌∙◌, arith, length-take-le, w8, Fits, rules, le-ltb, lt-ltb}
use Rattle.telegram.specs.Numbers.{done, fitted, leaves}
use Rattle.telegram.specs.Telegram.{Bytes}
use Rattle.telegram.specs.declared.Telegram.{Telegram}
use Rattle.telegram.proofs.Outcomes.{fit_small, fit-done, told-refused, told-done}
use Rattle.telegram.specs.declared.Refusal.{Refusal}
use Rattle.capture.specs.declared.Reply.{Reply as Told}
use Rattle.capture.specs.declared.Reply.TheVariants.{Telegram as Gives}
use Rattle.capture.specs.State.{going, standing_of, state_of}
use Rattle.capture.specs.Calls.{more, Given, answer_as, next_as}
use Rattle.reader.specs.Layout.{position_in, state_in, holding, held_as}
use Rattle.reader.specs.Interface.{returned, Called, answering, reader_next}
use Rattle.reader.proofs.States.{state-long}
use Rattle.reader.proofs.Few.{next_fits, next-waits}
use Rattle.reader.proofs.Holding.{held-open}
use Rattle.reader.proofs.Keeping.{Keeps, next-keeps}
use Rattle.reader.proofs.Exits.{next-none, next-told, called}
use Rattle.reader.proofs.next_carried.Goals as goal
use Rattle.reader.proofs.next_carried.Goals.{After-next_at-n, In-Ok-Telegram}

-- what was read out of memory
holds : (c : After-next_at-n) → state_in c.args.reader.now ≡ done (state_of c.in-Some.carried)
holds c = sym c.read_likely_open.ensures ∙ ap held_as c.in-Some.is

byte : (c : After-next_at-n) (k : ℕ) → Fits w8 (get_or c.in-Some.carried.bytes k 0)
byte c k = search rules

each : (c : After-next_at-n) → Bytes c.args.chunk.now
each c i = search rules

-- what is left can be kept
keeps : (c : After-next_at-n) → let g = next_as c.next_at-n.result in
    Keeps c.args.reader.now g.answer g.state
keeps c = next-keeps (state_of c.in-Some.carried) c.args.reader.now (holds c) (λ i. search rules) _ _ (each c) _ c.next_at-n.ensures

enough : (c : After-next_at-n) → 21 ≤ length c.args.reader.now
enough c = state-long _ _ (holds c)

-- more bytes are needed: standing and position are those in memory
waits : (c : After-next_at-n) → answer_as c.next_at-n.result.answer ≡ done more
    → let m = c.args.reader.now in
    let r = c.next_at-n.result.reading in
    (21 ≤ length m) × (standing_of r.phase ≡ going) × (get_or m 0 0 ≡ 0) × (position_in m ≡ r.position)
waits c e =
    let m = c.args.reader.now in
    let s = state_of c.in-Some.carried in
    let g = c.next_at-n.ensures in
    let w = next-waits _ s _ (sym (ap (λ (x : Given). x.answer) g) ∙ e) in
    let o = held-open s m (holds c) w.0 in (
      enough c,
      ap (λ (x : Given). x.state.standing) g ∙ w.1,
      o.0,
      o.1 ∙ sym (ap (λ (x : Given). x.state.position) g ∙ w.2),
    )

-- the call by what the reading answered
told : (c : After-next_at-n) (k : Result Told Refusal) → c.next_at-n.result.answer ≡ k
    → let a = c.args in
    answering (answer_as k) (next_as c.next_at-n.result) (length a.out.now) a.reader.now a.at.now
    ≡ reader_next a.reader.now a.chunk.now a.at.now (length a.out.now)
told c k e =
    let a = c.args in
    ap (λ (x : Result Told Refusal). answering (answer_as x) (next_as c.next_at-n.result) (length a.out.now) a.reader.now a.at.now) (sym e)
    ∙ next-told _ _ _ _ _ (next_as c.next_at-n.result) (holds c) c.next_at-n.ensures

-- a telegram, of at most 12 bytes
telegram-in : (c : In-Ok-Telegram) → c.next_at-n.result.answer ≡ Ok (Gives c.in-Ok-Telegram.t)
telegram-in c = c.in-Ok-Telegram.is ∙ ap Ok (rw c.in-Ok-Telegram.is at c.in-Ok-Telegram.field-0-is)

twelve : (c : After-next_at-n) → length c.next_at-n.result.bytes ≡ 12
twelve c = search rules

module _ (c : After-next_at-n) (t : Telegram) (e : c.next_at-n.result.answer ≡ Ok (Gives t)) where
  small : t.size ≤ 8
  small =
      (next_fits _ (state_of c.in-Some.carried) _ (λ i. (byte c i).fits) (each c)).size t
      (sym (ap (λ (x : Given). x.answer) c.next_at-n.ensures) ∙ ap answer_as e)

  abbrev part : List ℕ
  part = take (4 + t.size) c.next_at-n.result.bytes

  long : length part ≡ 4 + t.size
  long = length-take-le _ _ (omega (arith, small, twelve c))

-- what is given and left where there is no telegram
abbrev quiet : Given → ℕ → List ℕ → ℕ → Called
quiet g room mem at =
    record {
      outcome = fitted room [];
      memory = cond (ltb room 0) mem (holding g.state mem);
      at = cond (ltb room 0) at g.at;
    }

-- no bytes fit every room
fits : (room : ℕ) → ltb room 0 ≡ false
fits room = le-ltb room 0 (omega arith)

-- such a reply: state and index move, and nothing is written
silent : (c : After-next_at-n) (k : Result Told Refusal) (m : List ℕ) → c.next_at-n.result.answer ≡ k
    → let a = c.args in
    let o = a.out.now in
    let y = reader_next a.reader.now a.chunk.now a.at.now (length o) in
    answering (answer_as k) (next_as c.next_at-n.result) (length o) a.reader.now a.at.now ≡ quiet (next_as c.next_at-n.result) (length o) a.reader.now a.at.now
    → m ≡ holding (state_of c.next_at-n.result.reading) a.reader.now
    → (0 ≡ returned y.outcome) × ((m ≡ y.memory) × ((c.next_at-n.result.at ≡ y.at) × (o ≡ leaves y.outcome o)))
silent c k m e q b =
    let o = c.args.out.now in
    let z = fits (length o) in
    called (sym q ∙ told c k e) o (simp z) (b ∙ sym (simp z)) (sym (simp z)) (simp z)

pub returns-in_default : goal.returns-in_default
returns-in_default c =
    let a = c.args in
    let e = sym c.read_likely_open.ensures ∙ ap held_as c.in_default.is in
    let p = called (next-none _ a.chunk.now a.at.now (length a.out.now) e) a.out.now refl refl refl refl in
    record { value = p.0; reader_after = p.1.0; at_after = p.1.1.0; out_after = p.1.1.1 }

pub overflow_add-total : goal.overflow_add-total
overflow_add-total c =
    let g = goal.at.overflow_add-total c in
    record { fits = omega (arith, small g.After-next_at-n _ (telegram-in g.In-Ok-Telegram)) }

pub returns-then-out-total : goal.returns-then-out-total
returns-then-out-total c =
    let o = c.args.out.now in
    let g = goal.at.returns-then-out-total c in
    let q = g.After-next_at-n in
    let e = telegram-in g.In-Ok-Telegram in
    let h : length o < length (part q _ e) = omega (arith, c.if-out-total.true, long q _ e) in
    let r = told-refused returned o _ (fit_small (length o) (part q _ e) h) refl in
    let p = called (told q _ e) o r.0 (sym (simp (lt-ltb _ _ h))) (sym (simp (lt-ltb _ _ h))) r.1 in
    record { value = p.0; reader_after = p.1.0; at_after = p.1.1.0; out_after = p.1.1.1 }

pub slice_bounds-bytes-end : goal.slice_bounds-bytes-end
slice_bounds-bytes-end c =
    let g = goal.at.slice_bounds-bytes-end c in
    omega (arith, twelve g.After-next_at-n, small g.After-next_at-n _ (telegram-in g.In-Ok-Telegram))

pub slice_bounds-copy_from_slice-end-in-Ok-Telegram-2 : goal.slice_bounds-copy_from_slice-end-in-Ok-Telegram-2
slice_bounds-copy_from_slice-end-in-Ok-Telegram-2 c =
    let g = goal.at.slice_bounds-copy_from_slice-end-in-Ok-Telegram-2 c in
    sym (long g.After-next_at-n _ (telegram-in g.In-Ok-Telegram))

pub copy_from_slice-requires : goal.copy_from_slice-requires
copy_from_slice-requires c =
    let g = goal.at.copy_from_slice-requires c in
    length-take-le _ _ c.if-out-total.false ∙ sym (long g.After-next_at-n _ (telegram-in g.In-Ok-Telegram))

pub keep-requires : goal.keep-requires
keep-requires c = enough (goal.at.keep-requires c).After-next_at-n

pub keep-requires-in-Ok-Ended : goal.keep-requires-in-Ok-Ended
keep-requires-in-Ok-Ended c = enough (goal.at.keep-requires-in-Ok-Ended c).After-next_at-n

pub refuse_kept-requires : goal.refuse_kept-requires
refuse_kept-requires c = enough (goal.at.refuse_kept-requires c).After-next_at-n

pub keep_carried-requires : goal.keep_carried-requires
keep_carried-requires c = waits (goal.at.keep_carried-requires c).After-next_at-n (ap answer_as (c.in-Ok-More.is ∙ ap Ok (rw c.in-Ok-More.is at c.in-Ok-More.field-0-is)))

pub invariant_of-keep : goal.invariant_of-keep
invariant_of-keep c = record { fits = (keeps (goal.at.invariant_of-keep c).After-next_at-n).fits }

pub invariant_of-keep_carried : goal.invariant_of-keep_carried
invariant_of-keep_carried c = record { fits = (keeps (goal.at.invariant_of-keep_carried c).After-next_at-n).fits }

pub invariant_of-keep-in-Ok-Ended : goal.invariant_of-keep-in-Ok-Ended
invariant_of-keep-in-Ok-Ended c = record { fits = (keeps (goal.at.invariant_of-keep-in-Ok-Ended c).After-next_at-n).fits }

pub invariant_of-refuse_kept : goal.invariant_of-refuse_kept
invariant_of-refuse_kept c = record { fits = (keeps (goal.at.invariant_of-refuse_kept c).After-next_at-n).fits }

pub returns-else-out-total : goal.returns-else-out-total
returns-else-out-total c =
    let o = c.args.out.now in
    let k = 4 + c.in-Ok-Telegram.t.size in
    let g = goal.at.returns-else-out-total c in
    let q = g.After-next_at-n in
    let e = telegram-in g.In-Ok-Telegram in
    let u = part q _ e in
    let l = long q _ e in
    let h : length u ≤ length o = omega (arith, c.if-out-total.false, l) in
    let f = ap (λ (x : List ℕ). x ++ drop k o) c.copy_from_slice.ensures.after ∙ ap (λ (n : ℕ). u ++ drop n o) (sym l) in
    let r = told-done returned o _ (fit-done (length o) u h) (ap (λ (n : ℕ). n * 256) (sym l)) f in
    let p = called (told q _ e) o r.0 (c.keep.ensures ∙ sym (simp (le-ltb _ _ h))) (sym (simp (le-ltb _ _ h))) r.1 in
    record { value = p.0; reader_after = p.1.0; at_after = p.1.1.0; out_after = p.1.1.1 }

pub returns-in-Ok-More : goal.returns-in-Ok-More
returns-in-Ok-More c =
    let p = silent (goal.at.returns-in-Ok-More c).After-next_at-n _ _ (c.in-Ok-More.is ∙ ap Ok (rw c.in-Ok-More.is at c.in-Ok-More.field-0-is)) refl c.keep_carried.ensures in
    record { value = p.0; reader_after = p.1.0; at_after = p.1.1.0; out_after = p.1.1.1 }

pub returns-in-Ok-Ended : goal.returns-in-Ok-Ended
returns-in-Ok-Ended c =
    let p = silent (goal.at.returns-in-Ok-Ended c).After-next_at-n _ _ (c.in-Ok-Ended.is ∙ ap Ok (rw c.in-Ok-Ended.is at c.in-Ok-Ended.field-0-is)) refl c.keep-in-Ok-Ended.ensures in
    record { value = p.0; reader_after = p.1.0; at_after = p.1.1.0; out_after = p.1.1.1 }

pub returns-in-Err : goal.returns-in-Err
returns-in-Err c =
    let w = c.refuse_kept.ensures in
    let p = called (told (goal.at.returns-in-Err c).After-next_at-n _ c.in-Err.is) c.args.out.now w.value w.reader_after refl refl in
    record { value = p.0; reader_after = p.1.0; at_after = p.1.1.0; out_after = p.1.1.1 }
