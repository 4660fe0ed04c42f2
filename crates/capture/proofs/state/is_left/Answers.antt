-- `capture::is_left` meets its contract: at each return the tests that led there pick the answer of `is_left`. Assumes nothing.
use Rattle.std.proofs.Common.{◌≡◌, ℕ, Bool, true, ◌&&◌, eqb, drop, sym, refl, ap, ◌∙◌, arith, eq-eqb, ne_eqb}
use Rattle.telegram.specs.Numbers.{reason_of}
use Rattle.capture.specs.State.{going, ended, stopped_for, standing_of, zeros}
use Rattle.capture.proofs.States.{left-many, left-dirty, left_by_lem}
use Rattle.capture.proofs.state.is_left.Goals as goal
use Rattle.capture.proofs.state.is_left.Goals.{Else-not-zero_from, then-s-gt11-via-then-s-gt11, then-s-gt11-via-else-s-gt11+then-not-zero_from}

tidy : (c : Else-not-zero_from) → zeros (drop c.args.s.count c.args.s.bytes) ≡ true
tidy c = sym c.zero_from.ensures ∙ c.if-not-zero_from.false

-- a reading that was stopped carries nothing and has a number from 1 to 5
none : (n : ℕ) (x y : Bool) → n ≡ 0 → x ≡ y → x ≡ eqb n 0 && y
none n x y h e = rw (eq-eqb _ _ h) e

some : (n : ℕ) (y : Bool) → (n ≡ 0 → ⊥) → eqb n 0 ≡ (eqb n 0 && y)
some n y h = rw (ne_eqb _ _ h) refl

pub returns-then-s-gt11 : goal.returns-then-s-gt11
returns-then-s-gt11 c = elim c.then-s-gt11.branch [ then-s-gt11-via-then-s-gt11 w ↦ left-many _ w.if-s-gt11.true | then-s-gt11-via-else-s-gt11+then-not-zero_from w ↦ left-dirty _ (omega (arith, w.if-s-gt11.false)) (sym w.zero_from.ensures ∙ w.if-not-zero_from.true) ]

pub returns-else-s-eq0 : goal.returns-else-s-eq0
returns-else-s-eq0 c = some _ _ c.if-s-eq0.false
    ∙ left_by_lem _ (omega arith) (tidy (goal.at.returns-else-s-eq0 c).Else-not-zero_from) (stopped_for (reason_of c.in-Stopped.e)) (ap standing_of c.in-Stopped.is)

pub returns-in-Open : goal.returns-in-Open
returns-in-Open c = c.unfinished.ensures
    ∙ left_by_lem _ (omega arith) (tidy (goal.at.returns-in-Open c).Else-not-zero_from) going (ap standing_of c.in-Open.is)

pub returns-in-Ended : goal.returns-in-Ended
returns-in-Ended c = left_by_lem _ (omega arith) (tidy (goal.at.returns-in-Ended c).Else-not-zero_from) ended (ap standing_of c.in-Ended.is)

pub returns-then-s-eq0 : goal.returns-then-s-eq0
returns-then-s-eq0 c = none _ _ _ c.if-s-eq0.true c.stops.ensures
    ∙ left_by_lem _ (omega arith) (tidy (goal.at.returns-then-s-eq0 c).Else-not-zero_from) (stopped_for (reason_of c.in-Stopped.e)) (ap standing_of c.in-Stopped.is)
