-- Each state that calls take up is left by a reading, so that 11 is exact: no state is refused by mistake, and none is taken up that no
-- reading leaves. Every position is reached, by telegrams of four and of five bytes, and every two checksums that differ, by a telegram of
-- five.
-- Assumes nothing.
use Rattle.std.proofs.Common.{◌≡◌, ℕ, zero, suc, ◌+◌, ◌-◌, ◌*◌, ◌/◌, ◌%◌, ◌≤◌, Bool, true, ◌&&◌, ltb, ◌≢◌, List, [], ◌∷◌, ◌++◌, length, refl, ap, ◌∙◌, subst, inl, inr, ⊎_elim, arith, length-append, ltb-true, ne_eqb}
use Rattle.checksum.specs.Checksum.{shift_bit, remainder_byte, checksum_of}
use Rattle.telegram.specs.Numbers.{Reason, done, wrong_checksum}
use Rattle.telegram.specs.Telegram.{framing, reading, telegram_in, Bytes}
use Rattle.frame.specs.Frame.{Cutting, incomplete, cutting}
use Rattle.frame.proofs.Fronts.{bytes-none, bytes-cons, bytes-append, bytes_take, none-incomplete}
use Rattle.capture.specs.State.{Standing, going, ended, stopped_for, stopped, checksums_in, State, carrying, resting, carried_in}
use Rattle.capture.specs.Run.{wrapped, run, at_end}
use Rattle.capture.specs.Calls.{joined}
use Rattle.capture.specs.Uncut.{Taken, Position, AllAccepted, AcceptedAreGiven, LeftBySome, TakenIsLeft, LeftIsTaken}
use Rattle.std.proofs.lemmas.Bool.{and_parts}
use Rattle.capture.proofs.States.{carried-incomplete, none-ended, none-stopped, Stops, by_number, by-checksums, stops_as, is-carrying, is-resting}
use Rattle.capture.proofs.Runs.{Gives, shows, behind, uncut}
use Rattle.capture.proofs.Accepting.{accepted-are-given}
use Rattle.capture.proofs.Taken.{taken-fresh, taken-run, taken-end}
use Rattle.capture.proofs.Onto.{payload-for}

-- Whether all are below 256.
abbrev small : List ℕ → Bool
small [] = true
small (b ∷ l) = ltb b 256 && small l

bytes-by : (l : List ℕ) → small l ≡ true → Bytes l
bytes-by [] e = bytes-none
bytes-by (b ∷ l) e = let q = and_parts (ltb b 256) (small l) e in bytes-cons b l (ltb-true b 256 q.0) (bytes-by l q.1)

-- A run up to any position: telegrams of four and of five bytes.
abbrev four : List ℕ
four = 160 ∷ 0 ∷ 0 ∷ 34 ∷ []

abbrev five : List ℕ
five = 160 ∷ 0 ∷ 128 ∷ 0 ∷ 42 ∷ []

four-read : reading four ≡ done (telegram_in four)
unfolding reading framing checksum_of remainder_byte shift_bit
four-read = refl

five-read : reading five ≡ done (telegram_in five)
unfolding reading framing checksum_of remainder_byte shift_bit
five-read = refl

abbrev fill : ℕ → ℕ → List (List ℕ)
fill zero zero = []
fill zero (suc b) = five ∷ fill zero b
fill (suc a) b = four ∷ fill a b

fill-accepted : (a b : ℕ) → AllAccepted (fill a b)
fill-accepted zero zero = tt
fill-accepted zero (suc b) = ((telegram_in five, five-read), fill-accepted zero b)
fill-accepted (suc a) b = ((telegram_in four, four-read), fill-accepted a b)

fill-bytes : (a b : ℕ) → Bytes (joined (fill a b))
fill-bytes zero zero = bytes-none
fill-bytes zero (suc b) = bytes-append five (joined (fill zero b)) (bytes-by five refl) (fill-bytes zero b)
fill-bytes (suc a) b = bytes-append four (joined (fill a b)) (bytes-by four refl) (fill-bytes a b)

fill-length : (a b : ℕ) → length (joined (fill a b)) ≡ 4 * a + 5 * b
fill-length zero zero = refl
fill-length zero (suc b) = omega (arith, fill-length zero b, length-append five (joined (fill zero b)))
fill-length (suc a) b = omega (arith, fill-length a b, length-append four (joined (fill a b)))

-- How many bytes: p modulo 2^64, and so many that some telegrams of four and of five have just these.
abbrev far : ℕ → ℕ
far p = p + 18446744073709551616

abbrev up_to : ℕ → List ℕ
up_to p = joined (fill (far p / 4 - far p % 4) (far p % 4))

run_up : (p : ℕ) (m : List ℕ) → Position p → run (carrying [] 0) (up_to p ++ m) ≡ run (carrying [] p) m
unfolding AcceptedAreGiven
run_up p m h =
    let a = far p / 4 - far p % 4 in
    let b = far p % 4 in
    let n : length (joined (fill a b)) ≡ far p = fill-length a b ∙ omega arith in
    let e : wrapped (0 + length (joined (fill a b))) ≡ p = omega (arith, n) in
    (accepted-are-given (fill a b) 0 m (omega arith) (fill-accepted a b)).0 ∙ ap (λ (x : ℕ). run (carrying [] x) m) e

up-bytes : (p : ℕ) (m : List ℕ) → Bytes m → Bytes (up_to p ++ m)
up-bytes p m y = bytes-append (up_to p) m (fill-bytes (far p / 4 - far p % 4) (far p % 4)) y

-- What leaves a state: a run up to its position and some bytes more, and perhaps the end.
module _ (s : State) (h : Position s.position) (m : List ℕ) (y : Bytes m) where
  by-run : run (carrying [] s.position) m ≡ s → LeftBySome s
  by-run e = (up_to s.position ++ m, up-bytes s.position m y, inl (run_up s.position m h ∙ e))

  by_end : at_end (run (carrying [] s.position) m) ≡ s → LeftBySome s
  by_end e = (up_to s.position ++ m, up-bytes s.position m y, inr (ap at_end (run_up s.position m h) ∙ e))

-- Bytes that are refused with 2, with 3 and with 5, and bytes that are left over for 1 and for 4.
refused-2 : (p : ℕ) → run (carrying [] p) (0 ∷ []) ≡ resting (stopped 2) p
unfolding cutting
refused-2 p = refl

refused-3 : (p : ℕ) → run (carrying [] p) (160 ∷ 2 ∷ 128 ∷ []) ≡ resting (stopped 3) p
unfolding cutting
refused-3 p = refl

refused-5 : (p x c r : ℕ) → checksum_of (160 ∷ 0 ∷ 128 ∷ x ∷ []) ≡ c → c ≢ r
    → run (carrying [] p) (160 ∷ 0 ∷ 128 ∷ x ∷ r ∷ []) ≡ resting (stopped_for (wrong_checksum c r)) p
unfolding cutting reading framing
refused-5 p x c r e h = simp (e, ne_eqb c r h)

refused-1 : (p : ℕ) → at_end (run (carrying [] p) (160 ∷ [])) ≡ resting (stopped 1) p
unfolding cutting
refused-1 p = refl

refused-4 : (p : ℕ) → at_end (run (carrying [] p) (160 ∷ 0 ∷ 128 ∷ 0 ∷ [])) ≡ resting (stopped 4) p
unfolding cutting
refused-4 p = refl

numbered-by : (n : ℕ) (s : State) → Position s.position → 1 ≤ n → n ≤ 4 → resting (stopped n) s.position ≡ s → LeftBySome s
numbered-by zero s h a b e = absurd (omega arith)
numbered-by (suc zero) s h a b e = by_end s h (160 ∷ []) (bytes-by (160 ∷ []) refl) (refused-1 s.position ∙ e)
numbered-by (suc (suc zero)) s h a b e = by-run s h (0 ∷ []) (bytes-by (0 ∷ []) refl) (refused-2 s.position ∙ e)
numbered-by (suc (suc (suc zero))) s h a b e =
    by-run s h (160 ∷ 2 ∷ 128 ∷ []) (bytes-by (160 ∷ 2 ∷ 128 ∷ []) refl) (refused-3 s.position ∙ e)
numbered-by (suc (suc (suc (suc zero)))) s h a b e =
    by_end s h (160 ∷ 0 ∷ 128 ∷ 0 ∷ []) (bytes-by (160 ∷ 0 ∷ 128 ∷ 0 ∷ []) refl) (refused-4 s.position ∙ e)
numbered-by (suc (suc (suc (suc (suc n))))) s h a b e = absurd (omega arith)

stopped_by : (d : Reason) (s : State) → Position s.position → Bytes d.carries → Stops d → resting (stopped_for d) s.position ≡ s
    → LeftBySome s
stopped_by d s h y (by_number {n} a b) e = numbered-by n s h a b e
stopped_by d s h y (by-checksums {c} {r} f) e =
    let x = payload-for c (y 0) in
    let t : List ℕ = x.0 ∷ r ∷ [] in
    by-run s h (160 ∷ 0 ∷ 128 ∷ t)
    (bytes-append (160 ∷ 0 ∷ 128 ∷ []) t (bytes-by (160 ∷ 0 ∷ 128 ∷ []) refl) (bytes-cons x.0 (r ∷ []) x.1 (bytes-cons r [] (y 1) bytes-none)))
    (refused-5 s.position x.0 c r x.2 f ∙ e)

-- Bytes that begin a telegram are carried.
carried : (c : List ℕ) (p : ℕ) → cutting c ≡ incomplete → run (carrying [] p) c ≡ carrying c p
carried c p e =
    ap (λ (x : Gives). x.0) (uncut c [] p none-incomplete ∙ ap (λ (k : Cutting). shows k c p (behind k c)) e)

reached : (k : Standing) (s : State) → Taken s → Position s.position → s.standing ≡ k → LeftBySome s
reached going s t h o =
    by-run s h (carried_in s) (bytes_take s.count s.bytes t.each)
    (carried (carried_in s) s.position (carried-incomplete s t.leaves o) ∙ is-carrying s t.long t.leaves o)
reached ended s t h o = by_end s h [] bytes-none (is-resting s t.long t.leaves o (none-ended s t.leaves o))
reached (stopped_for d) s t h o =
    let q = none-stopped s t.leaves d o in
    stopped_by d s h (subst (λ (k : Standing). Bytes (checksums_in k)) o t.sums) (stops_as d q.1)
    (is-resting s t.long t.leaves o q.0)

-- Each state that is taken up is left by a reading ..
pub taken-is-left : TakenIsLeft
unfolding TakenIsLeft
taken-is-left s t h = reached s.standing s t h refl

-- .. and each that a reading leaves is taken up.
pub left-is-taken : LeftIsTaken
unfolding LeftIsTaken
left-is-taken s x =
    let t = taken-run (carrying [] 0) x.0 (taken-fresh 0) x.1 in
    ⊎_elim (λ e. subst Taken e t) (λ e. subst Taken e (taken-end (run (carrying [] 0) x.0) t)) x.2
