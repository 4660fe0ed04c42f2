-- What a call on a state leaves fits its memory: the position is below 2^64, and a telegram that it gives has at most 12 bytes.
-- Assumes nothing.
use Rattle.std.proofs.Common.{◌≡◌, ℕ, ◌+◌, ◌≤◌, Bool, true, false, List, ◌++◌, length, take, drop, sym, refl, ap, ◌∙◌, subst, arith, take_at}
use Rattle.telegram.specs.Numbers.{Reason, bare, Outcome, refused_for, done}
use Rattle.telegram.specs.Telegram.{reading, Bytes}
use Rattle.telegram.specs.declared.Telegram.{Telegram}
use Rattle.telegram.proofs.Outcomes.{never}
use Rattle.telegram.proofs.Reading.{accepted-count, accepted-size}
use Rattle.frame.specs.Frame.{Cutting, incomplete, broken, whole, cutting}
use Rattle.frame.proofs.Fronts.{bytes-append, bytes_take, bytes_drop}
use Rattle.capture.specs.State.{Standing, going, ended, stopped_for, stopped, State, padded, carrying, resting, carried_in, is_left}
use Rattle.capture.specs.Run.{judged, grown, ended_by}
use Rattle.capture.specs.Calls.{Reply, telegram, more, over, Given, without, next_judged, next_cut, next_by, nexting, Closed, closing}
use Rattle.capture.specs.Uncut.{Taken, Position}
use Rattle.capture.proofs.States.{next-not, next-by, end_by}
use Rattle.capture.proofs.Telegrams.{next-state}

-- A telegram that is given was accepted: its payload has at most 8 bytes, and all its bytes are given. A refusal leaves the index.
pub record Fits (at : ℕ) (g : Given) : Type 0 where
  pub size : (t : Telegram) → g.answer ≡ done (telegram t) → t.size ≤ 8
  pub count : (t : Telegram) → g.answer ≡ done (telegram t) → length (take (4 + t.size) g.bytes) ≡ 4 + t.size
  pub stays : (d : Reason) → g.answer ≡ refused_for d → at ≡ g.at

-- An answer without a telegram.
without-fits : (o : Outcome Reply) (at i : ℕ) (s : State) → ((t : Telegram) → o ≡ done (telegram t) → ⊥) → ((d : Reason) → o ≡ refused_for d → at ≡ i)
    → Fits at (without o i s)
without-fits o at i s f r = record { size = λ t e. absurd (f t e); count = λ t e. absurd (f t e); stays = r }

more-fits : (at i : ℕ) (s : State) → Fits at (without (done more) i s)
more-fits at i s =
    without-fits (done more) at i s (λ t e. let z : ◌≡◌ {A = ℕ} 0 1 = cc in omega arith) (λ n e. absurd (never (sym e)))

over-fits : (at : ℕ) (s : State) → Fits at (without (done over) at s)
over-fits at s = without-fits (done over) at at s (λ t e. let z : ◌≡◌ {A = ℕ} 0 1 = cc in omega arith) (λ n e. refl)

refused-fits : (d : Reason) (at : ℕ) (s : State) → Fits at (without (refused_for d) at s)
refused-fits d at s = without-fits (refused_for d) at at s (λ t e. never e) (λ m e. refl)

same : {u t : Telegram} → ◌≡◌ {A = Outcome Reply} (done (telegram u)) (done (telegram t)) → u ≡ t
same e = cc

judged-fits : (o : Outcome Telegram) (c : List ℕ) (k : ℕ) (s : State) (at : ℕ) → Bytes c → reading c ≡ o → Fits at (next_judged o c k s at)
judged-fits (done u) c k s at y e =
    let n = accepted-count c u e in
    record {
      size = λ t q. subst (λ (x : Telegram). x.size ≤ 8) (same q) (accepted-size c u y e);
      count = λ t q.
          subst (λ (x : Telegram). length (take (4 + x.size) (padded c)) ≡ 4 + x.size) (same q)
          (ap length (take_at c _ (4 + u.size) n) ∙ n);
      stays = λ m q. absurd (never (sym q));
    }
judged-fits (refused_for d) c k s at y e = refused-fits d at (resting (stopped_for d) s.position)

cut_fits : (k : Cutting) (c : List ℕ) (m : ℕ) (s : State) (at : ℕ) → Bytes c → Fits at (next_cut k c m s at)
cut_fits incomplete c m s at y = more-fits at (at + m) (carrying c s.position)
cut_fits (broken n) c m s at y = refused-fits (bare n) at (resting (stopped n) s.position)
cut_fits (whole k) c m s at y = judged-fits (reading (take k c)) (take k c) k s at (bytes_take k c y) refl

by_fits : (k : Standing) (l : List ℕ) (s : State) (at : ℕ) → Bytes s.bytes → Bytes l → Fits at (next_by k l s at)
by_fits going l s at y z =
    let w = carried_in s ++ l in
    cut_fits (cutting w) w (length l) s at (bytes-append (carried_in s) l (bytes_take s.count s.bytes y) z)
by_fits ended l s at y z = over-fits at s
by_fits (stopped_for d) l s at y z = refused-fits d at s

next-fits-by : (b : Bool) (c : List ℕ) (s : State) (at : ℕ) → is_left s ≡ b → Bytes s.bytes → Bytes c → Fits at (nexting c s at)
next-fits-by true c s at e y z = subst (Fits at) (next-by c s at e s.standing refl) (by_fits s.standing (drop at c) s at y (bytes_drop at c z))
next-fits-by false c s at e y z = subst (Fits at) (next-not c s at e) (refused-fits (bare 11) at s)

pub next_fits : (c : List ℕ) (s : State) (at : ℕ) → Bytes s.bytes → Bytes c → Fits at (nexting c s at)
next_fits c s at = next-fits-by (is_left s) c s at refl

-- Where more bytes are needed, the reading was open and is, and the position stays.
abbrev pub Waits : Standing → State → Given → Type 0
Waits k s g = g.answer ≡ done more → (k ≡ going) × (g.state.standing ≡ going) × (g.state.position ≡ s.position)

judged-waits : (o : Outcome Telegram) (c : List ℕ) (k : ℕ) (s : State) (at : ℕ) → Waits going s (next_judged o c k s at)
judged-waits (done t) c k s at e = let z : ◌≡◌ {A = ℕ} 0 1 = cc in absurd (omega arith)
judged-waits (refused_for d) c k s at e = absurd (never e)

cut-waits : (k : Cutting) (c : List ℕ) (m : ℕ) (s : State) (at : ℕ) → Waits going s (next_cut k c m s at)
cut-waits incomplete c m s at e = (refl, refl, refl)
cut-waits (broken n) c m s at e = absurd (never e)
cut-waits (whole k) c m s at e = judged-waits (reading (take k c)) (take k c) k s at e

by-waits : (k : Standing) (l : List ℕ) (s : State) (at : ℕ) → Waits k s (next_by k l s at)
by-waits going l s at e = cut-waits (cutting (carried_in s ++ l)) (carried_in s ++ l) (length l) s at e
by-waits ended l s at e = let z : ◌≡◌ {A = ℕ} 0 1 = cc in absurd (omega arith)
by-waits (stopped_for d) l s at e = absurd (never e)

next-waits-by : (b : Bool) (c : List ℕ) (s : State) (at : ℕ) → is_left s ≡ b → Waits s.standing s (nexting c s at)
next-waits-by true c s at e = subst (Waits s.standing s) (next-by c s at e s.standing refl) (by-waits s.standing (drop at c) s at)
next-waits-by false c s at e = subst (Waits s.standing s) (next-not c s at e) (λ q. absurd (never q))

pub next-waits : (c : List ℕ) (s : State) (at : ℕ) → Waits s.standing s (nexting c s at)
next-waits c s at = next-waits-by (is_left s) c s at refl

-- Positions stay below 2^64.
judged-position : (o : Outcome Telegram) (k p : ℕ) → Position p → Position (judged o k p).position
judged-position (done t) k p h = omega arith
judged-position (refused_for d) k p h = h

grown-position : (k : Cutting) (w : List ℕ) (p : ℕ) → Position p → Position (grown k w p).position
grown-position incomplete w p h = h
grown-position (broken n) w p h = h
grown-position (whole k) w p h = judged-position (reading (take k w)) k p h

by-position : (k : Standing) (l : List ℕ) (s : State) (at : ℕ) → Position s.position → Position (next_by k l s at).state.position
by-position going l s at h =
    let w = carried_in s ++ l in
    rw (next-state (cutting w) w (length l) s at) (grown-position (cutting w) w s.position h)
by-position ended l s at h = h
by-position (stopped_for d) l s at h = h

ended-position : (k : Standing) (s : State) → Position s.position → Position (ended_by k s).position
ended-position going s h = h
ended-position ended s h = h
ended-position (stopped_for d) s h = h

module _ (s : State) (t : Taken s) (h : Position s.position) where
  pub next-position : (c : List ℕ) (at : ℕ) → Position (nexting c s at).state.position
  next-position c at =
      subst (λ (g : Given). Position g.state.position) (next-by c s at t.leaves s.standing refl)
      (by-position s.standing (drop at c) s at h)

  pub end-position : Position (closing s).state.position
  end-position =
      subst (λ (g : Closed). Position g.state.position) (end_by s t.leaves s.standing refl)
      (ended-position s.standing s h)
