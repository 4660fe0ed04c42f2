-- The state that memory holds: a law for each answer. Assumes nothing.
use Rattle.std.proofs.Common.{◌≡◌, ℕ, ◌<◌, ◌≤◌, ltb, List, length, get_or, refl, ltb-false, le-ltb, lt-ltb, ne_eqb}
use Rattle.telegram.specs.Numbers.{Outcome, refused, done, after}
use Rattle.telegram.proofs.Outcomes.{passed}
use Rattle.capture.specs.State.{Standing, State}
use Rattle.reader.specs.Layout.{standing_in, stands_in, count_in, position_in, carried_bytes, state_in}

-- The state with the standing that its first two bytes say.
abbrev pub standing_state : List ℕ → Standing → State
standing_state mem k = record { standing = k; count = count_in k (get_or mem 1 0); position = position_in mem; bytes = carried_bytes k mem }

pub state-short : (mem : List ℕ) → length mem < 21 → refused 11 ≡ state_in mem
unfolding state_in
state-short mem h = simp (lt-ltb _ _ h)

-- Long enough memory: the first two bytes decide.
module _ (mem : List ℕ) (h : 21 ≤ length mem) where
  pub state-by : (o : Outcome Standing) → o ≡ stands_in mem
      → after o (λ (k : Standing). done (standing_state mem k)) ≡ state_in mem
  unfolding state_in
  state-by o e = rw (le-ltb _ _ h, ← e) refl

-- Memory that holds a state is long enough.
pub state-long : (mem : List ℕ) (s : State) → state_in mem ≡ done s → 21 ≤ length mem
unfolding state_in
state-long mem s e = ltb-false _ _ (passed (ltb (length mem) 21) 11 _ e).0

-- A first byte that is none of 0 to 2.
pub no-standing : (p v x y : ℕ) → (p ≡ 0 → ⊥) → (p ≡ 1 → ⊥) → (p ≡ 2 → ⊥) → refused 11 ≡ standing_in p v x y
no-standing p v x y a b c = simp (ne_eqb _ _ a, ne_eqb _ _ b, ne_eqb _ _ c)
