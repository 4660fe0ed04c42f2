-- What each function gives back and leaves, by what was read out of memory and what the reading answered. Assumes nothing.
use Rattle.std.proofs.Common.{◌≡◌, ℕ, Bool, cond, List, refl, ap, ◌∙◌}
use Rattle.telegram.specs.Numbers.{Reason, refused_for, done, leaves}
use Rattle.capture.specs.State.{State, is_left}
use Rattle.capture.specs.Calls.{Given, nexting, Closed, closing}
use Rattle.reader.specs.Layout.{state_in}
use Rattle.reader.specs.Interface.{returned, Called, answering, reader_next, Ended, end_answering, reader_end, reader_position}

module _ (mem chunk : List ℕ) (at room : ℕ) where
  pub next-none : {d : Reason} → state_in mem ≡ refused_for d → ◌≡◌ {A = Called} (record { outcome = refused_for d; memory = mem; at = at }) (reader_next mem chunk at room)
  unfolding reader_next
  next-none e = rw e refl

  pub next-told : (s : State) (g : Given) → state_in mem ≡ done s → g ≡ nexting chunk s at → answering g.answer g room mem at ≡ reader_next mem chunk at room
  unfolding reader_next
  next-told s g e q = rw (e, q) refl

-- What is returned and left, of a call that is known.
pub called : {x y : Called} → x ≡ y → (out : List ℕ) {r i : ℕ} {m o : List ℕ} → r ≡ returned x.outcome → m ≡ x.memory → i ≡ x.at
    → o ≡ leaves x.outcome out → (r ≡ returned y.outcome) × ((m ≡ y.memory) × ((i ≡ y.at) × (o ≡ leaves y.outcome out)))
called e out a b c d = (
  a ∙ ap (λ (z : Called). returned z.outcome) e,
  (b ∙ ap (λ (z : Called). z.memory) e, (c ∙ ap (λ (z : Called). z.at) e, d ∙ ap (λ (z : Called). leaves z.outcome out) e)),
)

module _ (mem : List ℕ) where
  pub end_none : {d : Reason} → state_in mem ≡ refused_for d → ◌≡◌ {A = Ended} (record { outcome = refused_for d; memory = mem }) (reader_end mem)
  unfolding reader_end
  end_none e = rw e refl

  pub end-told : (s : State) (c : Closed) → state_in mem ≡ done s → c ≡ closing s → end_answering c.answer c.state mem ≡ reader_end mem
  unfolding reader_end
  end-told s c e q = rw (e, q) refl

  pub position-none : {d : Reason} → state_in mem ≡ refused_for d → 0 ≡ reader_position mem
  unfolding reader_position
  position-none e = rw e refl

  pub position-by : (s : State) (b : Bool) → state_in mem ≡ done s → is_left s ≡ b → cond b s.position 0 ≡ reader_position mem
  unfolding reader_position
  position-by s b e q = rw (e, q) refl

pub ended : {x y : Ended} → x ≡ y → {r : ℕ} {m : List ℕ} → r ≡ returned x.outcome → m ≡ x.memory → (r ≡ returned y.outcome) × (m ≡ y.memory)
ended e a b = (a ∙ ap (λ (z : Ended). returned z.outcome) e, b ∙ ap (λ (z : Ended). z.memory) e)
