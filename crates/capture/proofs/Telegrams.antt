-- Reading telegram by telegram is reading byte by byte: what one call for the next telegram gives and leaves is what the run comes to.
-- Assumes nothing.
use Rattle.std.proofs.Common.{◌≡◌, ℕ, ◌+◌, ◌-◌, ◌<◌, ◌≤◌, List, [], ◌∷◌, ◌++◌, length, take, drop, sym, refl, ap, ◌∙◌, subst, ap₂, arith, length-append, length-drop, drop-drop, take_at}
use lib.Seq.{drop-append-add, drop-length}
use Rattle.telegram.specs.Numbers.{Reason, bare, Outcome, refused_for, done}
use Rattle.telegram.specs.Telegram.{reading}
use Rattle.telegram.specs.declared.Telegram.{Telegram}
use Rattle.telegram.proofs.Reading.{accepted-count}
use Rattle.frame.specs.Frame.{Cutting, incomplete, broken, whole, cutting}
use Rattle.frame.proofs.Cuts.{complete, whole-past}
use Rattle.capture.specs.State.{Standing, going, ended, stopped_for, stopped, State, carrying, resting, carried_in}
use Rattle.capture.specs.Run.{wrapped, judged, grown, accepted_by, completed_by, run, telegrams_in}
use Rattle.capture.specs.Calls.{Given, next_judged, next_cut, next_by, nexting, told}
use Rattle.capture.specs.Uncut.{Taken, OneCall, ByTelegrams, Final}
use Rattle.capture.proofs.States.{carried-count, carried-incomplete, is-carrying, next-by}
use Rattle.capture.proofs.Runs.{Gives, gives, stays, behind, uncut}

-- A call by what the bytes show: the state that it leaves ..
judged-state : (o : Outcome Telegram) (c : List ℕ) (k : ℕ) (s : State) (at : ℕ) → (next_judged o c k s at).state ≡ judged o k s.position
judged-state (done t) c k s at = refl
judged-state (refused_for d) c k s at = refl

pub next-state : (k : Cutting) (w : List ℕ) (m : ℕ) (s : State) (at : ℕ) → (next_cut k w m s at).state ≡ grown k w s.position
next-state incomplete w m s at = refl
next-state (broken n) w m s at = refl
next-state (whole k) w m s at = judged-state (reading (take k w)) (take k w) k s at

-- .. and the telegram that it gives.
judged-told : (o : Outcome Telegram) (c : List ℕ) (k : ℕ) (s : State) (at : ℕ) → reading c ≡ o
    → told (next_judged o c k s at) ≡ accepted_by o c
judged-told (done t) c k s at e = ap (λ (x : List ℕ). x ∷ []) (take_at c _ (4 + t.size) (accepted-count c t e))
judged-told (refused_for d) c k s at e = refl

pub next-told : (k : Cutting) (w : List ℕ) (m : ℕ) (s : State) (at : ℕ) → told (next_cut k w m s at) ≡ completed_by k w
next-told incomplete w m s at = refl
next-told (broken n) w m s at = refl
next-told (whole k) w m s at = judged-told (reading (take k w)) (take k w) k s at refl

cons-none : {A : Type 0} {x : List ℕ} {l : List (List ℕ)} → x ∷ l ≡ [] → A
cons-none e = let z : ◌≡◌ {A = ℕ} 0 1 = cc in absurd (omega arith)

-- A call that gave one telegram, and left a later index of the chunk.
pub record Ahead (c : List ℕ) (at : ℕ) (more : List (List ℕ)) (g : Given) : Type 0 where
  pub on : at < g.at
  pub within : g.at ≤ length c
  pub one : more ≡ []

-- The bytes that it leaves: the state carries d, the chunk c has the bytes l from the index on.
module _ (c d : List ℕ) (s : State) (at : ℕ) (n : length d ≡ s.count) (e : cutting d ≡ incomplete) where
  abbrev l : List ℕ
  l = drop at c

  all-taken : drop (at + length l) c ≡ []
  all-taken = sym (drop-drop (length l) at c) ∙ drop-length l

  rest-taken : (k : ℕ) → length d ≤ k → drop (at + (k - s.count)) c ≡ drop k (d ++ l)
  rest-taken k h =
      let m : length d + (k - s.count) ≡ k = omega arith in
      sym (drop-drop (k - s.count) at c) ∙ sym (drop-append-add d l (k - s.count)) ∙ ap (λ (i : ℕ). drop i (d ++ l)) m

  stopped-same : (r : Reason) (p : ℕ) (x y : List ℕ) → gives (resting (stopped_for r) p) x ≡ gives (resting (stopped_for r) p) y
  stopped-same r p x y = stays (resting (stopped_for r) p) tt x ∙ sym (stays (resting (stopped_for r) p) tt y)

  judged-rest : (o : Outcome Telegram) (t : List ℕ) (k : ℕ) → length d ≤ k
      → gives (next_judged o t k s at).state (drop (next_judged o t k s at).at c) ≡ gives (judged o k s.position) (drop k (d ++ l))
  judged-rest (done x) t k h = ap (λ (z : List ℕ). gives (carrying [] (wrapped (s.position + k))) z) (rest-taken k h)
  judged-rest (refused_for r) t k h = stopped-same r s.position l (drop k (d ++ l))

  next-rest : (k : Cutting) → cutting (d ++ l) ≡ k
      → gives (next_cut k (d ++ l) (length l) s at).state (drop (next_cut k (d ++ l) (length l) s at).at c)
      ≡ gives (grown k (d ++ l) s.position) (behind k (d ++ l))
  next-rest incomplete q = ap (λ (z : List ℕ). gives (carrying (d ++ l) s.position) z) all-taken
  next-rest (broken r) q = stopped-same (bare r) s.position l []
  next-rest (whole k) q = judged-rest (reading (take k (d ++ l))) (take k (d ++ l)) k (omega (arith, whole-past d l k e q))

  -- Where it gives no telegram, nothing more is given.
  judged-quiet : (o : Outcome Telegram) (t : List ℕ) (k : ℕ) → told (next_judged o t k s at) ≡ []
      → gives (next_judged o t k s at).state (drop (next_judged o t k s at).at c) ≡ ((next_judged o t k s at).state, [])
  judged-quiet (done x) t k g = cons-none g
  judged-quiet (refused_for r) t k g = stays (resting (stopped_for r) s.position) tt l

  next-quiet : (k : Cutting) → told (next_cut k (d ++ l) (length l) s at) ≡ []
      → gives (next_cut k (d ++ l) (length l) s at).state (drop (next_cut k (d ++ l) (length l) s at).at c)
      ≡ ((next_cut k (d ++ l) (length l) s at).state, [])
  next-quiet incomplete g = ap (λ (z : List ℕ). gives (carrying (d ++ l) s.position) z) all-taken
  next-quiet (broken r) g = stays (resting (stopped r) s.position) tt l
  next-quiet (whole k) g = judged-quiet (reading (take k (d ++ l))) (take k (d ++ l)) k g

  -- Where it gives one, it goes on in the chunk.
  judged-ahead : (o : Outcome Telegram) (t : List ℕ) (k : ℕ) {x : List ℕ} {y : List (List ℕ)} → length d < k → k ≤ length (d ++ l)
      → told (next_judged o t k s at) ≡ x ∷ y → Ahead c at y (next_judged o t k s at)
  judged-ahead (done u) t k a b g =
      let m : length (d ++ l) ≡ length d + (length c - at) = simp (length-append, length-drop) refl in
      record { on = omega arith; within = omega arith; one = cc }
  judged-ahead (refused_for r) t k a b g = cons-none (sym g)

  next-ahead : (k : Cutting) {x : List ℕ} {y : List (List ℕ)} → cutting (d ++ l) ≡ k → told (next_cut k (d ++ l) (length l) s at) ≡ x ∷ y
      → Ahead c at y (next_cut k (d ++ l) (length l) s at)
  next-ahead incomplete q g = cons-none (sym g)
  next-ahead (broken r) q g = cons-none (sym g)
  next-ahead (whole k) q g =
      judged-ahead (reading (take k (d ++ l))) (take k (d ++ l)) k (whole-past d l k e q) (complete (d ++ l) k q).count g

-- A call, by how the reading stands.
module _ (c : List ℕ) (s : State) (at : ℕ) (t : Taken s) where
  abbrev by : Standing → Given
  by k = next_by k (drop at c) s at

  abbrev carried : List ℕ
  carried = carried_in s

  abbrev w : List ℕ
  w = carried ++ drop at c

  follows : (k : Standing) → s.standing ≡ k
      → gives s (drop at c) ≡ (run (by k).state (drop (by k).at c), told (by k) ++ telegrams_in (by k).state (drop (by k).at c))
  follows going o =
      let i = carried-incomplete s t.leaves o in
      let n = carried-count s t.long t.leaves in
      ap (λ (z : State). gives z (drop at c)) (sym (is-carrying s t.long t.leaves o)) ∙ uncut (drop at c) carried s.position i
      ∙ ap₂ (λ (ts : List (List ℕ)) (x : Gives). (x.0, ts ++ x.1)) (sym (next-told (cutting w) w (length (drop at c)) s at))
      (sym (next-rest c carried s at n i (cutting w) refl))
  follows ended o = refl
  follows (stopped_for r) o = refl

  quiet : (k : Standing) → s.standing ≡ k → told (by k) ≡ [] → gives (by k).state (drop (by k).at c) ≡ ((by k).state, [])
  quiet going o g =
      next-quiet c carried s at (carried-count s t.long t.leaves) (carried-incomplete s t.leaves o) (cutting w) g
  quiet ended o g = stays s (subst Final (sym o) tt) (drop at c)
  quiet (stopped_for r) o g = stays s (subst Final (sym o) tt) (drop at c)

  ahead-by : (k : Standing) {x : List ℕ} {y : List (List ℕ)} → s.standing ≡ k → told (by k) ≡ x ∷ y → Ahead c at y (by k)
  ahead-by going o g =
      next-ahead c carried s at (carried-count s t.long t.leaves) (carried-incomplete s t.leaves o) (cutting w) refl g
  ahead-by ended o g = cons-none (sym g)
  ahead-by (stopped_for r) o g = cons-none (sym g)

  -- A call that gives a telegram goes on in the chunk.
  pub next-ahead-of : {x : List ℕ} {y : List (List ℕ)} → told (nexting c s at) ≡ x ∷ y → Ahead c at y (nexting c s at)
  next-ahead-of = rw (← next-by c s at t.leaves s.standing refl) (ahead-by s.standing refl)

  one-call : OneCall c s at (by s.standing)
  one-call =
      let f = follows s.standing refl in
      record {
        state = ap (λ (x : Gives). x.0) f;
        telegrams = ap (λ (x : Gives). x.1) f;
        last = λ g.
            let q = quiet s.standing refl g in
            record {
              telegrams = sym (ap (λ (x : Gives). x.1) f ∙ ap₂ (λ (a b : List (List ℕ)). a ++ b) g (ap (λ (x : Gives). x.1) q));
              state = sym (ap (λ (x : Gives). x.0) f ∙ ap (λ (x : Gives). x.0) q);
            };
      }

-- The run of the bytes from an index on is what the call gives, and then the run of the bytes that it leaves.
pub by-telegrams : ByTelegrams
unfolding ByTelegrams
by-telegrams c s at t = subst (λ (g : Given). OneCall c s at g) (next-by c s at t.leaves s.standing refl) (one-call c s at t)
