-- A state that is kept in memory comes back, and zeros hold the fresh reading.
-- Assumes nothing.
use Rattle.std.proofs.Common.{◌≡◌, ℕ, zero, suc, ◌+◌, ◌-◌, ◌≤◌, Bool, true, false, cond, not, ◌&&◌, eqb, leb, ◌⊎◌, List, [], ◌∷◌, ◌++◌, length, get_or, take, drop, replicate, sym, refl, ap, ◌∙◌, subst, ap₂, inl, inr, arith, length-append, length-drop, length-take-le, take_all, take-suc, take_at, get_or-append-add, drop_at, ne_eqb, eqb-true, le-leb}
use lib.ListN.{get_or-replicate}
use Rattle.telegram.specs.Numbers.{Reason, bare, done, wrong_checksum, front}
use Rattle.telegram.proofs.Outcomes.{never, done-one, passed}
use Rattle.frame.proofs.Fronts.{bytes-zeros, bytes-append}
use Rattle.capture.specs.State.{Standing, going, ended, stopped_for, checksums_in, State, carried_in, padded}
use Rattle.capture.specs.Uncut.{Taken, Position}
use Rattle.capture.proofs.States.{left, none-stopped, Stops, by_number, by-checksums, stops_as, carried-count, carried-padded, is-resting}
use Rattle.capture.proofs.Taken.{taken-fresh}
use Rattle.reader.specs.Layout.{reason_in, standing_in, stands_in, count_in, carried_bytes, state_in, standing_byte, value_byte, state_head, state_bytes, holding}
use Rattle.reader.specs.Kept.{FreshIsZeros, FreshIsTaken, StateComesBack}
use Rattle.reader.proofs.States.{state-by, no-standing}
use Rattle.reader.proofs.Positions.{position-back}

-- All zeros.
pub fresh-is-zeros : FreshIsZeros
unfolding FreshIsZeros
fresh-is-zeros l = sym (state-by (replicate 21 0 ++ l) (omega arith) (done going) refl)

pub fresh-is-taken : FreshIsTaken
unfolding FreshIsTaken FreshIsZeros
fresh-is-taken l y =
    record { each = bytes-append (replicate 21 0) l (bytes-zeros 21) y; holds = fresh-is-zeros l; leaves = (taken-fresh 0).leaves }

-- How a reading stands, in two bytes and two checksums: what they say was written so ..
abbrev pub Sums : ℕ → ℕ → Standing → Type 0
Sums x y k = (checksums_in k ≡ []) ⊎ (checksums_in k ≡ x ∷ y ∷ [])

pub record Said (p v x y : ℕ) (k : Standing) : Type 0 where
  pub phase : standing_byte k ≡ p
  pub value : value_byte k (count_in k v) ≡ v
  pub sums : Sums x y k

said-stopped : (v x y : ℕ) (b : Bool) → eqb v 5 ≡ b → Said 2 v x y (stopped_for (cond b (wrong_checksum x y) (bare v)))
said-stopped v x y true e = record { phase = refl; value = sym (eqb-true v 5 e); sums = inr refl }
said-stopped v x y false e = record { phase = refl; value = refl; sums = inl refl }

pub said : (p v x y : ℕ) (k : Standing) → standing_in p v x y ≡ done k → Said p v x y k
said zero v x y k e = subst (Said 0 v x y) (done-one e) (record { phase = refl; value = refl; sums = inl refl })
said (suc zero) v x y k e = subst (Said 1 v x y) (done-one e) (record { phase = refl; value = refl; sums = inl refl })
said (suc (suc zero)) v x y k e =
    subst (Said 2 v x y) (done-one (passed (not (leb 1 v && leb v 5)) 11 (done (stopped_for (reason_in v x y))) e).1)
    (said-stopped v x y (eqb v 5) refl)
said (suc (suc (suc p))) v x y k e =
    absurd (never (no-standing (suc (suc (suc p))) v x y (λ z. omega arith) (λ z. omega arith) (λ z. omega arith) ∙ e))

-- The state's bytes, and then those behind it. Checksums stand in place of bytes that are carried.
abbrev pub shown : State → List ℕ
shown s = front (checksums_in s.standing) s.bytes

pub parts : (s : State) (mem : List ℕ) → 11 ≤ length (shown s) → holding s mem ≡ state_head s ++ (take 11 (shown s) ++ drop 21 mem)
parts s mem h =
    let n : length (state_bytes s) ≡ 21 = omega (arith, length-take-le 11 (shown s) h) in
    ap (λ (k : ℕ). state_bytes s ++ drop k mem) n

-- The twelfth byte of a state is 0.
module _ (s : State) (t : Taken s) where
  twelfth : get_or s.bytes 11 0 ≡ 0
  twelfth =
      let c = carried_in s in
      let n = carried-count s t.long t.leaves in
      let f = (left s t.leaves).few in
      let e : length c + (11 - length c) ≡ 11 = omega arith in
      sym (ap (λ (l : List ℕ). get_or l 11 0) (carried-padded s t.long t.leaves))
      ∙ sym (ap (λ (k : ℕ). get_or (padded c) k 0) e)
      ∙ get_or-append-add c (replicate (12 - length c) 0) (11 - length c) 0
      ∙ get_or-replicate (12 - length c) (11 - length c) 0 0 (omega arith)

  eleven-and-zero : take 11 s.bytes ++ (0 ∷ []) ≡ s.bytes
  eleven-and-zero =
      ap (λ (b : ℕ). take 11 s.bytes ++ (b ∷ [])) (sym twelfth)
      ∙ sym (take-suc s.bytes 11 0 (omega (arith, t.long))) ∙ take_all 12 s.bytes (omega (arith, t.long))

-- The first two of eleven bytes with others behind them.
first_two : (l r : List ℕ) → 2 ≤ length l → (get_or (take 11 l ++ r) 0 0 ≡ get_or l 0 0) × (get_or (take 11 l ++ r) 1 0 ≡ get_or l 1 0)
first_two [] r h = absurd (omega arith)
first_two (x ∷ []) r h = absurd (omega arith)
first_two (x ∷ y ∷ l) r h = (refl, refl)

-- What is kept comes back: how the reading stands, and its bytes, of twelve.
pub record Comes (s : State) (k : Standing) (l : List ℕ) : Type 0 where
  stands : done k ≡ standing_in (standing_byte k) (value_byte k s.count) (get_or l 0 0) (get_or l 1 0)
  count : count_in k (value_byte k s.count) ≡ s.count
  long : length l ≡ 12
  carried : front (replicate (length (checksums_in k)) 0) (take 11 l ++ 0 ∷ []) ≡ s.bytes

comes-stopped : (s : State) → Taken s → (d : Reason) → s.standing ≡ stopped_for d → s.count ≡ 0 → Stops d
    → Comes s (stopped_for d) (front d.carries s.bytes)
comes-stopped s t d o z (by_number {n} a b) =
    record {
      stands = simp (le-leb 1 n a, le-leb n 5 (omega arith), ne_eqb n 5 (λ (e : n ≡ 5). omega arith));
      count = sym z;
      long = t.long;
      carried = eleven-and-zero s t;
    }
comes-stopped s t d o z (by-checksums {c} {r} f) =
    let e : padded [] ≡ s.bytes = ap (λ (x : State). x.bytes) (is-resting s t.long t.leaves o z) in
    subst (λ (l : List ℕ). Comes (record { standing = s.standing; count = s.count; position = s.position; bytes = l }) (stopped_for (wrong_checksum c r)) (front (c ∷ r ∷ []) l)) e
    (record { stands = refl; count = sym z; long = refl; carried = refl })

comes : (s : State) → Taken s → (k : Standing) → s.standing ≡ k → Comes s k (front (checksums_in k) s.bytes)
comes s t going o = record { stands = refl; count = refl; long = t.long; carried = eleven-and-zero s t }
comes s t ended o = record { stands = refl; count = refl; long = t.long; carried = eleven-and-zero s t }
comes s t (stopped_for d) o = let r = none-stopped s t.leaves d o in comes-stopped s t d o r.0 (stops_as d r.1)

module _ (s : State) (mem : List ℕ) (t : Taken s) (p : Position s.position) (h : 21 ≤ length mem) where
  abbrev kept : List ℕ
  kept = state_head s ++ (take 11 (shown s) ++ drop 21 mem)

  abbrev back : Comes s s.standing (shown s)
  back = comes s t s.standing refl

  eleven : length (take 11 (shown s)) ≡ 11
  eleven = length-take-le 11 (shown s) (omega (arith, back.long))

  kept-long : length kept ≡ length mem
  kept-long = simp (length-append, length-drop) (omega (arith, eleven))

  kept-front : take 11 (drop 10 kept) ≡ take 11 (shown s)
  kept-front = take_at (take 11 (shown s)) (drop 21 mem) 11 eleven

  kept-carried : carried_bytes s.standing kept ≡ s.bytes
  kept-carried =
      ap (λ (l : List ℕ). front (replicate (length (checksums_in s.standing)) 0) (l ++ (0 ∷ []))) kept-front ∙ back.carried

  kept-stands : done s.standing ≡ stands_in kept
  kept-stands =
      let f = first_two (shown s) (drop 21 mem) (omega (arith, back.long)) in
      back.stands ∙ ap₂ (standing_in (standing_byte s.standing) (value_byte s.standing s.count)) (sym f.0) (sym f.1)

  kept-state : state_in kept ≡ done s
  kept-state =
      sym (state-by kept (omega (arith, kept-long)) (done s.standing) kept-stands)
      ∙ (λ i. done (record { standing = s.standing; count = back.count i; position = position-back s.position p i; bytes = kept-carried i }))

  kept-behind : drop 21 kept ≡ drop 21 mem
  kept-behind = drop_at (take 11 (shown s)) (drop 21 mem) 11 eleven

pub state-comes-back : StateComesBack
unfolding StateComesBack
state-comes-back s mem t p h =
    let q = parts s mem (omega (arith, (comes s t s.standing refl).long)) in
    record {
      state = ap state_in q ∙ kept-state s mem t p h;
      behind = ap (drop 21) q ∙ kept-behind s mem t p h;
    }
