-- What a call leaves of a state that memory holds can be kept there, whatever it answers: the count fits in a byte, and with 11 it is the
-- state that memory holds, so that no byte changes. Assumes nothing.
use Rattle.std.proofs.Common.{◌≡◌, ℕ, ◌≤◌, Bool, true, false, cond, eqb, List, sym, refl, subst, arith, ne_eqb}
use Rattle.telegram.specs.Numbers.{Reason, Outcome, refused_for, refused, done}
use Rattle.telegram.specs.Telegram.{Bytes}
use Rattle.capture.specs.State.{State, is_left}
use Rattle.capture.specs.Calls.{Reply, Given, nexting, Closed, closing}
use Rattle.capture.specs.Uncut.{Taken, LeavesTaken}
use Rattle.capture.proofs.States.{left, next-not, end-not}
use Rattle.capture.proofs.Taken.{leaves-taken}
use Rattle.reader.specs.Layout.{state_in, holding}
use Rattle.reader.specs.Interface.{kept_by}
use Rattle.reader.specs.Kept.{HeldStays, TakenIn}
use Rattle.reader.proofs.Holding.{held_stays, held-few, held-taken}
use Rattle.reader.proofs.InMemory.{no-eleven}

-- What is answered and left can be kept.
pub record Keeps (mem : List ℕ) (o : Outcome Reply) (t : State) : Type 0 where
  pub fits : t.count ≤ 255
  pub refused : (d : Reason) → o ≡ refused_for d → holding t mem ≡ kept_by d.number t mem

module _ (s : State) (mem : List ℕ) (e : state_in mem ≡ done s) (y : Bytes mem) where
  -- The state that memory holds.
  same : (b : Bool) → holding s mem ≡ cond b mem (holding s mem)
  unfolding HeldStays
  same true = held_stays s mem y e
  same false = refl

  held-keeps : (o : Outcome Reply) → Keeps mem o s
  held-keeps o = record { fits = held-few s mem e y; refused = λ d q. same (eqb d.number 11) }

  -- One that a reading leaves, with any other number.
  left-keeps : (o : Outcome Reply) (t : State) → Taken t → ((d : Reason) → o ≡ refused_for d → d.number ≡ 11 → ⊥) → Keeps mem o t
  left-keeps o t k f = record { fits = omega (arith, (left t k.leaves).few); refused = λ d q. sym (simp (ne_eqb d.number 11 (f d q))) }

  -- What a call for the next telegram and the end answer and leave.
  taken : is_left s ≡ true → TakenIn s mem
  taken l = record { each = y; holds = e; leaves = l }

  next-by : (b : Bool) → is_left s ≡ b → (c : List ℕ) (at : ℕ) → Bytes c → Keeps mem (nexting c s at).answer (nexting c s at).state
  unfolding LeavesTaken
  next-by true l c at z =
      left-keeps _ _ ((leaves-taken s (held-taken s mem (taken l))).next c at z) (λ d. (no-eleven s mem (taken l)).next c at d z)
  next-by false l c at z = subst (λ (g : Given). Keeps mem g.answer g.state) (next-not c s at l) (held-keeps (refused 11))

  pub next-keeps : (c : List ℕ) (at : ℕ) → Bytes c → (g : Given) → g ≡ nexting c s at → Keeps mem g.answer g.state
  next-keeps c at z g q = subst (λ (g : Given). Keeps mem g.answer g.state) (sym q) (next-by (is_left s) refl c at z)

  end-by : (b : Bool) → is_left s ≡ b → Keeps mem (closing s).answer (closing s).state
  unfolding LeavesTaken
  end-by true l = left-keeps _ _ (leaves-taken s (held-taken s mem (taken l))).closing (no-eleven s mem (taken l)).closing
  end-by false l = subst (λ (g : Closed). Keeps mem g.answer g.state) (end-not s l) (held-keeps (refused 11))

  pub end-keeps : (g : Closed) → g ≡ closing s → Keeps mem g.answer g.state
  end-keeps g q = subst (λ (g : Closed). Keeps mem g.answer g.state) (sym q) (end-by (is_left s) refl)
