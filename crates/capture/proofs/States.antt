-- The state of a reading: a law for each way out of `is_left`, what a state has that some reading leaves, and that such a state is told
-- by its standing, its position and the bytes that it carries. Then the answers, by how the reading stands. Callers cite these and
-- unfold neither `is_left` nor `nexting`, `closing`, `scanning`.
-- Assumes nothing.
use Rattle.std.proofs.Common.{◌≡◌, ℕ, zero, suc, ◌-◌, ◌<◌, ◌≤◌, true, false, not, eqb, leb, ◌≢◌, List, [], ◌∷◌, ◌++◌, length, take, drop, replicate, sym, refl, ap, ◌∙◌, subst, ap₂, arith, length-drop, take-append-drop, length-take-le, ne_eqb, eqb-true, le-leb, leb-true}
use mathlib.Core.Bool.{false≢true}
use Rattle.std.proofs.lemmas.Bool.{and_parts}
use borrow.Author.Tests.{lt-leb, eqb-false, not-true}
use lib.Seq.{take-append_seam, drop-append_seam}
use Rattle.telegram.specs.Numbers.{Reason, bare, refused, wrong_checksum}
use Rattle.telegram.specs.Telegram.{Bytes}
use Rattle.frame.specs.Frame.{Cutting, incomplete, broken, whole, cutting}
use Rattle.frame.proofs.Cuts.{incomplete-short}
use Rattle.capture.specs.State.{Standing, going, ended, stopped_for, State, padded, carrying, resting, carried_in, zeros, is_incomplete, stops_with, stops, left_by, is_left}
use Rattle.capture.specs.Run.{run, telegrams_in, ended_by}
use Rattle.capture.specs.Calls.{without, next_by, nexting, Closed, closed, closing, Scanned, scanned, scanning}

-- Whether some reading leaves a state, from what its tests show.
pub left-many : (s : State) → 11 < s.count → false ≡ is_left s
unfolding is_left
left-many s h = simp (lt-leb _ _ h)

module _ (s : State) (h : s.count ≤ 11) where
  pub left-dirty : zeros (drop s.count s.bytes) ≡ false → false ≡ is_left s
  unfolding is_left
  left-dirty e = simp (le-leb _ _ h, e)

  pub left_by_lem : zeros (drop s.count s.bytes) ≡ true → (k : Standing) → s.standing ≡ k → left_by k s ≡ is_left s
  unfolding is_left
  left_by_lem z k e = rw (le-leb _ _ h, z, e) refl

-- What a state has that some reading leaves.
pub record Left (s : State) : Type 0 where
  pub few : s.count ≤ 11
  pub clear : zeros (drop s.count s.bytes) ≡ true
  pub stands : left_by s.standing s ≡ true

pub left : (s : State) → is_left s ≡ true → Left s
unfolding is_left
left s e =
    let p = and_parts (leb s.count 11) _ e in
    let q = and_parts (zeros (drop s.count s.bytes)) (left_by s.standing s) p.1 in
    record { few = leb-true _ _ p.0; clear = q.0; stands = q.1 }

is-incomplete : (k : Cutting) → is_incomplete k ≡ true → k ≡ incomplete
is-incomplete incomplete e = refl
is-incomplete (broken n) e = let z : ◌≡◌ {A = ℕ} 0 1 = cc in absurd (omega arith)
is-incomplete (whole n) e = let z : ◌≡◌ {A = ℕ} 0 1 = cc in absurd (omega arith)

module _ (s : State) (e : is_left s ≡ true) where
  stands-as : (k : Standing) → s.standing ≡ k → left_by k s ≡ true
  stands-as k o = sym (ap (λ (x : Standing). left_by x s) o) ∙ (left s e).stands

  -- A reading that goes on carries an unfinished telegram, or nothing ..
  pub carried-incomplete : s.standing ≡ going → cutting (carried_in s) ≡ incomplete
  carried-incomplete o = is-incomplete (cutting (carried_in s)) (stands-as going o)

  -- .. one that has ended carries nothing ..
  pub none-ended : s.standing ≡ ended → s.count ≡ 0
  none-ended o = eqb-true s.count 0 (stands-as ended o)

  -- .. and so does one that was stopped, for a reason that stops a reading.
  pub none-stopped : (d : Reason) → s.standing ≡ stopped_for d → (s.count ≡ 0) × (stops d ≡ true)
  none-stopped d o =
      let p = and_parts (eqb s.count 0) (stops d) (stands-as (stopped_for d) o) in
      (eqb-true _ _ p.0, p.1)

-- What stops a reading: 1 to 4, or 5 with two checksums that differ.
pub data Stops : Reason → Type 0 where
  by_number : {n : ℕ} → 1 ≤ n → n ≤ 4 → Stops (bare n)
  by-checksums : {c r : ℕ} → c ≢ r → Stops (wrong_checksum c r)

stops-with : (n : ℕ) (l : List ℕ) → stops_with n l ≡ true → Stops (record { number = n; carries = l })
stops-with n [] e = let q = and_parts (leb 1 n) (leb n 4) e in by_number (leb-true _ _ q.0) (leb-true _ _ q.1)
stops-with n (c ∷ []) e = absurd (false≢true e)
stops-with n (c ∷ r ∷ []) e =
    let q = and_parts (eqb n 5) (not (eqb c r)) e in
    subst (λ (k : ℕ). Stops (record { number = k; carries = c ∷ r ∷ [] })) (sym (eqb-true n 5 q.0))
    (by-checksums (eqb-false c r (not-true _ q.1)))
stops-with n (c ∷ r ∷ x ∷ l) e = absurd (false≢true e)

pub stops_as : (d : Reason) → stops d ≡ true → Stops d
stops_as d e = stops-with d.number d.carries e

pub stops-differ : (c r : ℕ) → c ≢ r → stops (wrong_checksum c r) ≡ true
stops-differ c r h = simp (ne_eqb c r h)

-- Its number is 1 to 5.
pub stops-low : (d : Reason) → Stops d → (1 ≤ d.number) × (d.number ≤ 5)
stops-low d (by_number a b) = (a, omega (arith, b))
stops-low d (by-checksums h) = (omega arith, omega arith)

-- Bytes that are all zero.
pub zeros-all : (l : List ℕ) → zeros l ≡ true → l ≡ replicate (length l) 0
zeros-all [] e = refl
zeros-all (b ∷ l) e =
    let p = and_parts (eqb b 0) (zeros l) e in
    ap₂ (λ (x : ℕ) (y : List ℕ). x ∷ y) (eqb-true b 0 p.0) (zeros-all l p.1)

zeros-made : (n : ℕ) → zeros (replicate n 0) ≡ true
zeros-made zero = refl
zeros-made (suc n) = zeros-made n

-- What is put into the state is what it carries.
pub carried-back : (c : List ℕ) (p : ℕ) → carried_in (carrying c p) ≡ c
carried-back c p = take-append_seam c _

same-state : (s : State) {k : Standing} {n : ℕ} {b : List ℕ} → k ≡ s.standing → n ≡ s.count → b ≡ s.bytes
    → ◌≡◌ {A = State} (record { standing = k; count = n; position = s.position; bytes = b }) s
same-state s p q r = λ i. record { standing = p i; count = q i; position = s.position; bytes = r i }

-- A state of twelve bytes that some reading leaves has nothing in it but its standing, its position and the bytes that it carries.
module _ (s : State) (n : length s.bytes ≡ 12) (e : is_left s ≡ true) where
  pub carried-count : length (carried_in s) ≡ s.count
  carried-count = length-take-le s.count s.bytes (omega (arith, (left s e).few))

  pub carried-padded : padded (carried_in s) ≡ s.bytes
  carried-padded =
      let k : 12 - length (carried_in s) ≡ length (drop s.count s.bytes) = simp length-drop (omega (arith, carried-count)) in
      ap (λ (i : ℕ). carried_in s ++ replicate i 0) k
      ∙ ap (λ (l : List ℕ). carried_in s ++ l) (sym (zeros-all (drop s.count s.bytes) (left s e).clear))
      ∙ take-append-drop s.count s.bytes

  pub is-carrying : s.standing ≡ going → carrying (carried_in s) s.position ≡ s
  is-carrying o = same-state s (sym o) carried-count carried-padded

  pub is-resting : {k : Standing} → s.standing ≡ k → s.count ≡ 0 → resting k s.position ≡ s
  is-resting o z = same-state s (sym o) (sym z) (sym (ap (λ (i : ℕ). padded (take i s.bytes)) z) ∙ carried-padded)

-- Such states: one that carries an unfinished telegram or nothing, one that has ended, one that was stopped.
pub left-carrying : (c : List ℕ) (p : ℕ) → Bytes c → cutting c ≡ incomplete → is_left (carrying c p) ≡ true
left-carrying c p y e =
    let r : List ℕ = replicate (12 - length c) 0 in
    let z : zeros (drop (length c) (c ++ r)) ≡ true = rw (drop-append_seam c r) (zeros-made (12 - length c)) in
    sym (left_by_lem (carrying c p) (incomplete-short c y e) z going refl)
    ∙ ap (λ (x : List ℕ). is_incomplete (cutting x)) (carried-back c p) ∙ ap is_incomplete e

pub left_ended : (p : ℕ) → is_left (resting ended p) ≡ true
unfolding is_left
left_ended p = refl

pub left-stopped : (d : Reason) (p : ℕ) → stops d ≡ true → is_left (resting (stopped_for d) p) ≡ true
unfolding is_left
left-stopped d p e = e

-- The answers: 11 for a state that no reading leaves, else by how the reading stands.
module _ (c : List ℕ) (s : State) (at : ℕ) where
  pub next-not : is_left s ≡ false → without (refused 11) at s ≡ nexting c s at
  unfolding nexting
  next-not e = rw e refl

  pub next-by : is_left s ≡ true → (k : Standing) → s.standing ≡ k → next_by k (drop at c) s at ≡ nexting c s at
  unfolding nexting
  next-by e k o = rw e (ap (λ (x : Standing). next_by x (drop at c) s at) (sym o))

module _ (s : State) where
  pub end-not : is_left s ≡ false → ◌≡◌ {A = Closed} (record { answer = refused 11; state = s }) (closing s)
  unfolding closing
  end-not e = rw e refl

  pub end_by : is_left s ≡ true → (k : Standing) → s.standing ≡ k → closed (ended_by k s) ≡ closing s
  unfolding closing
  end_by e k o = rw e (ap (λ (x : Standing). closed (ended_by x s)) (sym o))

module _ (c : List ℕ) (s : State) where
  pub scan-not : is_left s ≡ false
      → ◌≡◌ {A = Scanned} (record { answer = refused 11; telegrams = 0; position = 0; state = s }) (scanning c s)
  unfolding scanning
  scan-not e = rw e refl

  pub scan-left : is_left s ≡ true → scanned (length (telegrams_in s c)) (run s c) ≡ scanning c s
  unfolding scanning
  scan-left e = rw e refl
