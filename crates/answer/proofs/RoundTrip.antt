-- What is built as an answer is accepted; an accepted answer has at most 12 bytes and builds back through the raw builder.
-- Assumes nothing.
use mathlib.Core.Path.{◌≡◌, refl, ◌∙◌, sym, ap, subst}
use mathlib.Core.Bool.{Bool, true, false, ◌||◌, cond}
use mathlib.Core.List.{List}
use Prim.Native.Nat.{ℕ, ◌+◌, ◌≤◌, ◌<◌}
use native.Mathlib.Omega.{arith}
use lib.Dec.{eqb, leb}
use lib.ListN.{length}
use borrow.Author.Tests.{eqb-true, leb-true, ne_eqb, le-leb}
use Rattle.telegram.specs.Numbers.{done}
use Rattle.telegram.specs.Telegram.{Bytes, reading, telegram_of, building, payload_in}
use Rattle.telegram.specs.declared.Telegram.{Telegram}
use Rattle.telegram.proofs.Outcomes.{done-one, went_on}
use Rattle.telegram.proofs.Reading.{accepted-count}
use Rattle.telegram.proofs.Building.{Sendable, build-done, built, listed_le}
use Rattle.telegram.proofs.RoundTrip.{read-builds, built-reads}
use Rattle.table.specs.Table.{row_of, answer_size_of}
use Rattle.table.proofs.Table.{answer-listed}
use Rattle.command.specs.Fields.{fields_by}
use Rattle.command.specs.Commands.{numbered}
use Rattle.answer.specs.Answers.{Reply, answer_address, answer_layout_of, answer_payload_of, dissecting_answer}
use Rattle.command.proofs.Layouts.{Wide, payload-back}
use Rattle.command.proofs.RoundTrip.{payload-bytes, payload-length}
use Rattle.answer.proofs.Widths.{answer-wide}
use Rattle.answer.proofs.Answering.{Replied, replied, answer-done, dissect-answer-named, dissected-answer}

-- An answer's address is one that a telegram may carry.
address-fits : (n a : ℕ) → answer_address n a ≡ true → a ≤ 1023
address-fits n a h = go (eqb a 0) refl h
  where
    go : (b : Bool) → eqb a 0 ≡ b → cond b (eqb n 0x02 || eqb n 0x03) (leb a 0x3EF) ≡ true → a ≤ 1023
    go true e k = omega (arith, eqb-true a 0 e)
    go false e k = omega (arith, leb-true a 0x3EF k)

-- An answer may have the address of every lamp.
pub lamp-address : (n a : ℕ) → 1 ≤ a → a ≤ 0x3EF → answer_address n a ≡ true
lamp-address n a l h = simp (ne_eqb a 0 (λ e. omega arith), le-leb a 0x3EF h)

-- What is built as an answer is accepted: from an address that an answer may have, with as many bytes as the table has for it.
pub built-answers : (a n : ℕ) (p : List ℕ) → answer_address n a ≡ true → answer_size_of n ≡ done (length p) → 0 < length p
    → dissecting_answer (telegram_of a n p) ≡ done (record { address = a; message = numbered n (fields_by (answer_layout_of n) p) })
built-answers a n p from size some =
    let s : List ℕ = telegram_of a n p in
    let l = answer-listed n (length p) size in
    let v : Sendable a n p = record { address = address-fits n a from; command = omega (arith, l.0); size = l.1 } in
    let b = built-reads a n p (4 + length p) s (build-done a n p (4 + length p) v (omega arith)) in
    let g = went_on (row_of n) _ size in
    let k = done-one g.1.1 in
    let t : Telegram = record { address = record { 0 = a }; command = n; size = length p } in
    sym (dissect-answer-named s b.0)
    ∙ sym
    (answer-done s t g.0 g.1.0 (λ z. omega arith) from (sym k) _
    (sym (ap (λ (q : List ℕ). numbered n (fields_by (answer_layout_of n) q)) b.1)))

-- An accepted answer has at most 12 bytes.
pub answered-short : (s : List ℕ) (a : Reply) → dissecting_answer s ≡ done a → length s ≤ 12
answered-short s a e =
    let d = dissected-answer s e in
    let g = replied s d.0 a d.1.1 in
    let k : answer_size_of d.0.command ≡ done d.0.size = simp g.known (ap done (sym g.size)) in
    omega (arith, accepted-count s d.0 d.1.0, listed_le d.0.size (answer-listed d.0.command d.0.size k).1)

-- An accepted answer builds back through the raw builder, in every room that is long enough for it.
pub answered-builds : (s : List ℕ) (a : Reply) → Bytes s → dissecting_answer s ≡ done a → (room : ℕ) → length s ≤ room
    → building a.address a.message.number (answer_payload_of a.message) room ≡ done s
answered-builds s a y e room h =
    let d = dissected-answer s e in
    let t : Telegram = d.0 in
    let r : reading s ≡ done t = d.1.0 in
    let g : Replied s t a = replied s t a d.1.1 in
    let n = t.command in
    let p : List ℕ = payload_in s t.size in
    let lp : length p ≡ t.size = payload-length s t r in
    let b : building t.address.0 n p room ≡ done s = read-builds s t y r room h in
    let v = (built t.address.0 n p room b).0 in
    let w : Wide (answer_layout_of n) p =
    answer-wide n v.command p (listed_le (length p) v.size) (simp g.known (ap done (sym g.size ∙ sym lp))) in
    subst (λ (x : Reply). building x.address x.message.number (answer_payload_of x.message) room ≡ done s) g.reply
    (ap (λ (l : List ℕ). building t.address.0 n l room) (payload-back (answer_layout_of n) p (payload-bytes s t.size y lp) w)
    ∙ b)
