-- A reading leaves only states that calls take up again.
-- Assumes nothing.
use Rattle.std.proofs.Common.{◌≡◌, ℕ, suc, ◌+◌, ◌-◌, ◌<◌, Bool, true, false, cond, eqb, ltb, List, [], ◌∷◌, ◌++◌, length, take, drop, replicate, sym, refl, ap, subst, ⊎_elim, arith, length-append}
use lib.ListN.{length-replicate}
use Rattle.telegram.specs.Numbers.{Reason, bare, Outcome, refused_for, done}
use Rattle.telegram.specs.Telegram.{reading, Bytes}
use Rattle.telegram.specs.declared.Telegram.{Telegram}
use Rattle.frame.specs.Frame.{Cutting, incomplete, broken, whole, cutting}
use Rattle.frame.proofs.Cuts.{fault, incomplete-short}
use Rattle.frame.proofs.Fronts.{bytes-none, bytes-cons, bytes-append, bytes_take, bytes_drop, bytes-zeros, none-incomplete, whole-refused}
use Rattle.capture.specs.State.{Standing, going, ended, stopped_for, stopped, checksums_in, State, carrying, resting, carried_in, stops, is_left}
use Rattle.capture.specs.Run.{wrapped, judged, grown, fed, fed_by, run, ended_by, at_end}
use Rattle.capture.specs.Calls.{Given, next_by, nexting, Closed, Scanned}
use Rattle.capture.specs.Uncut.{Taken, LeavesTaken}
use Rattle.capture.proofs.States.{left-carrying, left_ended, left-stopped, stops-differ, next-by, end_by, scan-left}
use Rattle.capture.proofs.Telegrams.{next-state}

-- States that are taken up: an unfinished telegram is carried, or nothing.
taken-resting : (k : Standing) (p : ℕ) → Bytes (checksums_in k) → is_left (resting k p) ≡ true → Taken (resting k p)
taken-resting k p y e = record { long = refl; each = bytes-zeros 12; sums = y; leaves = e }

pub taken-carrying : (c : List ℕ) (p : ℕ) → Bytes c → cutting c ≡ incomplete → Taken (carrying c p)
taken-carrying c p y e =
    record {
      long = simp (length-append, length-replicate) (omega (arith, incomplete-short c y e));
      each = bytes-append c (replicate (12 - length c) 0) y (bytes-zeros (12 - length c));
      sums = bytes-none;
      leaves = left-carrying c p y e;
    }

pub taken-fresh : (p : ℕ) → Taken (carrying [] p)
taken-fresh p = taken-carrying [] p bytes-none none-incomplete

taken-ended : (p : ℕ) → Taken (resting ended p)
taken-ended p = taken-resting ended p bytes-none (left_ended p)

taken-stopped : (d : Reason) (p : ℕ) → Bytes d.carries → stops d ≡ true → Taken (resting (stopped_for d) p)
taken-stopped d p y e = taken-resting (stopped_for d) p y (left-stopped d p e)

-- What bytes make of them.
taken-judged : (w : List ℕ) (k p : ℕ) → Bytes w → cutting w ≡ whole k → (o : Outcome Telegram) → reading (take k w) ≡ o → Taken (judged o k p)
taken-judged w k p y e (done t) q = taken-fresh (wrapped (p + k))
taken-judged w k p y e (refused_for d) q =
    let m = whole-refused w k d e q in
    let b = m.bytes y in
    subst (λ (x : Reason). Taken (resting (stopped_for x) p)) (sym m.reason)
    (taken-stopped _ p (bytes-cons m.computed (m.received ∷ []) b.0 (bytes-cons m.received [] b.1 bytes-none)) (stops-differ _ _ m.differ))

pub taken-grown : (k : Cutting) (w : List ℕ) (p : ℕ) → Bytes w → cutting w ≡ k → Taken (grown k w p)
taken-grown incomplete w p y e = taken-carrying w p y e
taken-grown (broken n) w p y e =
    taken-stopped (bare n) p bytes-none
    (⊎_elim (λ m. ap (λ (x : ℕ). stops (bare x)) m) (λ m. ap (λ (x : ℕ). stops (bare x)) m) (fault w n e))
taken-grown (whole k) w p y e = taken-judged w k p y e (reading (take k w)) refl

-- The bytes that are carried, with more behind them.
with-more : (s : State) (l : List ℕ) → Taken s → Bytes l → Bytes (carried_in s ++ l)
with-more s l t y = bytes-append (carried_in s) l (bytes_take s.count s.bytes t.each) y

fed-taken : (k : Standing) (s : State) (b : ℕ) → Taken s → b < 256 → Taken (fed_by k s b)
fed-taken going s b t h = taken-grown _ (carried_in s ++ b ∷ []) s.position (with-more s (b ∷ []) t (bytes-cons b [] h bytes-none)) refl
fed-taken ended s b t h = t
fed-taken (stopped_for d) s b t h = t

pub taken-fed : (s : State) (b : ℕ) → Taken s → b < 256 → Taken (fed s b)
taken-fed s b t h = fed-taken s.standing s b t h

pub taken-run : (s : State) (l : List ℕ) → Taken s → Bytes l → Taken (run s l)
taken-run s [] t y = t
taken-run s (b ∷ l) t y = taken-run (fed s b) l (taken-fed s b t (y 0)) (λ k. y (suc k))

-- What the end makes of them.
left_over_lem : (a b : Bool) (p : ℕ) → Taken (resting (cond a ended (cond b (stopped 1) (stopped 4))) p)
left_over_lem true b p = taken-ended p
left_over_lem false true p = taken-stopped (bare 1) p bytes-none refl
left_over_lem false false p = taken-stopped (bare 4) p bytes-none refl

end-taken : (k : Standing) (s : State) → Taken s → Taken (ended_by k s)
end-taken going s t = left_over_lem (eqb s.count 0) (ltb s.count 4) s.position
end-taken ended s t = t
end-taken (stopped_for d) s t = t

pub taken-end : (s : State) → Taken s → Taken (at_end s)
taken-end s t = end-taken s.standing s t

-- What calls leave of them.
next-taken : (k : Standing) (s : State) (l : List ℕ) (at : ℕ) → Taken s → Bytes l → Taken (next_by k l s at).state
next-taken going s l at t y =
    let w = carried_in s ++ l in
    rw (next-state (cutting w) w (length l) s at) (taken-grown (cutting w) w s.position (with-more s l t y) refl)
next-taken ended s l at t y = t
next-taken (stopped_for d) s l at t y = t

pub taken_next : (c : List ℕ) (s : State) (at : ℕ) → Taken s → Bytes c → Taken (nexting c s at).state
taken_next c s at t y =
    subst (λ (g : Given). Taken g.state) (next-by c s at t.leaves s.standing refl)
    (next-taken s.standing s (drop at c) at t (bytes_drop at c y))

-- Bytes, the end and every call leave states that are taken up.
pub leaves-taken : LeavesTaken
unfolding LeavesTaken
leaves-taken s t =
    record {
      bytes = λ l y. taken-run s l t y;
      end = taken-end s t;
      next = λ c at y. taken_next c s at t y;
      closing = subst (λ (g : Closed). Taken g.state) (end_by s t.leaves s.standing refl) (taken-end s t);
      scanning = λ c y. subst (λ (g : Scanned). Taken g.state) (scan-left c s t.leaves) (taken-run s c t y);
    }
