-- Which telegrams are both a command and an answer: those of SETMULT acknowledged alone.
-- Assumes nothing.
use mathlib.Core.Path.{◌≡◌, refl, sym, ap, ◌∙◌}
use mathlib.Core.Bool.{Bool, true, false, not, ◌&&◌, ◌||◌}
use mathlib.Core.List.{List}
use Prim.Native.Nat.{ℕ, ◌≤◌}
use native.Mathlib.Omega.{arith}
use lib.Dec.{eqb, ltb, eqb→eq}
use borrow.Author.Tests.{eqb-true, eq-eqb, ltb-true, ltb-false}
use Rattle.checksum.proofs.Below.{at}
use Rattle.telegram.specs.Numbers.{Outcome, refused_for, done}
use Rattle.telegram.specs.declared.Telegram.{Telegram}
use Rattle.telegram.proofs.Outcomes.{never, done-one}
use Rattle.table.specs.Casts.{address_of}
use Rattle.table.specs.Table.{row_of, cast_listed}
use Rattle.table.specs.declared.Casts.TheVariants.{Single}
use Rattle.table.specs.declared.Row.{Row}
use Rattle.table.proofs.Table.{T-or, row-high}
use Rattle.table.proofs.Destinations.{reached}
use Rattle.table.proofs.Acknowledged.{one-listed}
use Rattle.command.specs.Commands.{Message, Sent, dissecting}
use Rattle.command.proofs.Naming.{named, dissected}
use Rattle.command.proofs.RoundTrip.{one-lamp}
use Rattle.answer.specs.Answers.{Reply, answer_address, dissecting_answer}
use Rattle.answer.proofs.RoundTrip.{lamp-address}
use Rattle.answer.proofs.Answering.{replied, answer-done, dissect-answer-named, dissected-answer}

-- A row whose command has an answer of as many bytes as its payload.
alike : Outcome Row → Bool
alike (refused_for d) = false
alike (done r) = not (eqb r.answer 0) && eqb r.payload r.answer

-- The table has one such row: one test at each number up to 6F.
only-alike : (n : ℕ) (r : Row) → row_of n ≡ done r → eqb r.answer 0 ≡ false → r.payload ≡ r.answer → n ≡ 0x2D
unfolding row_of alike
only-alike n r known some same = go (ltb 0x6F n) refl
  where
    go : (b : Bool) → ltb 0x6F n ≡ b → n ≡ 0x2D
    go true h = absurd (never (row-high n (ltb-true 0x6F n h) ∙ known))
    go false h =
        let low : n ≤ 0x6F = ltb-false 0x6F n h in
        let is : alike (row_of n) ≡ true = ap alike known ∙ simp (some, eq-eqb _ _ same) in
        eqb→eq n 0x2D
        (T-or (not (alike (row_of n))) (eqb n 0x2D) (ap not is)
        (at (λ (m : ℕ). not (alike (row_of m)) || eqb m 0x2D) 0x70 tt n (omega arith)))

-- What the command dissector and the answer dissector both accept has the number 2D.
pub either-only : (s : List ℕ) (m : Sent) (a : Reply) → dissecting s ≡ done m → dissecting_answer s ≡ done a
    → m.message.number ≡ 0x2D
either-only s m a e f =
    let d = dissected s e in
    let g = named s d.0 m d.1.1 in
    let c = dissected-answer s f in
    let same : c.0 ≡ d.0 = done-one (sym c.1.0 ∙ d.1.0) in
    let h = replied s c.0 a c.1.1 in
    let row : h.row ≡ g.row =
    done-one (sym h.known ∙ ap (λ (t : Telegram). row_of t.command) same ∙ g.known) in
    let size : d.0.size ≡ g.row.answer =
    sym (ap (λ (t : Telegram). t.size) same) ∙ h.size ∙ ap (λ (r : Row). r.answer) row in
    ap (λ (x : Message). x.number) g.message
    ∙ only-alike d.0.command g.row g.known (sym (ap (λ (r : Row). eqb r.answer 0) row) ∙ h.some)
    (sym (eqb-true d.0.size g.row.payload g.fits) ∙ size)

-- Every command of that number is accepted as an answer too.
pub either_is : (s : List ℕ) (m : Sent) → dissecting s ≡ done m → m.message.number ≡ 0x2D → (a : Reply) × (dissecting_answer s ≡ done a)
unfolding row_of
either_is s m e n =
    let d = dissected s e in
    let t : Telegram = d.0 in
    let g = named s t m d.1.1 in
    let k : t.command ≡ 0x2D = sym (ap (λ (x : Message). x.number) g.message) ∙ n in
    let row : g.row ≡ record { casts = Single; payload = 2; answer = 2 } = done-one (sym g.known ∙ ap row_of k) in
    let one = one-listed m.cast (sym (ap (λ (r : Row). cast_listed r.casts m.cast) row) ∙ g.listed) in
    let in-range = one-lamp s m one.0 e one.1 in
    let address : t.address.0 ≡ one.0.0 = sym (reached t.address.0 m.cast g.to).address ∙ ap address_of one.1 in
    let from : answer_address t.command t.address.0 ≡ true =
    ap (answer_address t.command) address ∙ lamp-address t.command one.0.0 in-range.0 in-range.1 in
    let size : t.size ≡ g.row.answer =
    eqb-true t.size g.row.payload g.fits ∙ ap (λ (r : Row). r.payload) row ∙ sym (ap (λ (r : Row). r.answer) row) in
    let some : g.row.answer ≡ 0 → ⊥ = λ z. let y : ◌≡◌ {A = ℕ} 2 0 = sym (ap (λ (r : Row). r.answer) row) ∙ z in omega arith in
    (_, sym (dissect-answer-named s d.1.0) ∙ sym (answer-done s t g.row g.known some from size _ refl))
