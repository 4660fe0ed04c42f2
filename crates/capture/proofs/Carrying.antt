-- What a refusal of a call on a chunk carries, on every state, and that a wrong checksum is passed on whole.
-- Assumes nothing.
use Rattle.std.proofs.Common.{◌≡◌, ℕ, Bool, true, false, cond, eqb, ltb, ◌⊎◌, List, ◌++◌, length, take, drop, sym, refl, ap, ◌∙◌, subst, ⊎_elim, arith}
use Rattle.telegram.specs.Numbers.{Reason, bare, Outcome, refused_for, done}
use Rattle.telegram.specs.Telegram.{reading}
use Rattle.telegram.specs.declared.Telegram.{Telegram}
use Rattle.telegram.specs.Carried.{Carries, both, none, Carried, ReaderCarries}
use Rattle.telegram.proofs.Carrying.{carried-done, carried-for, reader-carries}
use Rattle.frame.specs.Frame.{Cutting, incomplete, broken, whole, cutting}
use Rattle.frame.proofs.Cuts.{fault}
use Rattle.capture.specs.State.{Standing, going, ended, stopped_for, stopped, State, carried_in, is_left}
use Rattle.capture.specs.Run.{run, ended_by}
use Rattle.capture.specs.Calls.{Given, answer_of, next_judged, next_cut, next_by, nexting, Closed, closing, Scanned, scanning}
use Rattle.capture.specs.Carried.{ChunksPassOn, ChunksCarry}
use Rattle.capture.proofs.States.{Stops, by_number, by-checksums, stops_as, none-stopped, next-by, next-not, end_by, end-not, scan-left, scan-not}
use Rattle.capture.proofs.Repeating.{fair-run}

-- What stops a reading carries so.
stops-carry : (d : Reason) → Stops d → Carries d
stops-carry d (by_number {n} a b) = none (λ (z : n ≡ 5). omega arith)
stops-carry d (by-checksums h) = both h

-- So does what is refused before a telegram is whole.
fault-carries : (n : ℕ) → (n ≡ 2) ⊎ (n ≡ 3) → Carries (bare n)
fault-carries n f = none (λ (z : n ≡ 5). ⊎_elim (λ a. omega arith) (λ a. omega arith) f)

-- The next telegram, by how the reading stands.
judged-carries : (o : Outcome Telegram) (c : List ℕ) (k : ℕ) (s : State) (at : ℕ) → Carried o → Carried (next_judged o c k s at).answer
judged-carries (done t) c k s at h = carried-done _
judged-carries (refused_for d) c k s at h = carried-for d (h d refl)

cut-carries : (k : Cutting) (w : List ℕ) (m : ℕ) (s : State) (at : ℕ) → cutting w ≡ k → Carried (next_cut k w m s at).answer
unfolding ReaderCarries
cut-carries incomplete w m s at q = carried-done _
cut-carries (broken n) w m s at q =
    carried-for (bare n) (fault-carries n (fault w n q))
cut-carries (whole k) w m s at q = judged-carries (reading (take k w)) (take k w) k s at (reader-carries (take k w))

stands-carries : (k : Standing) (s : State) → is_left s ≡ true → s.standing ≡ k → Carried (answer_of k)
stands-carries going s e o = carried-done _
stands-carries ended s e o = carried-done _
stands-carries (stopped_for d) s e o = carried-for d (stops-carry d (stops_as d (none-stopped s e d o).1))

by-carries : (k : Standing) (l : List ℕ) (s : State) (at : ℕ) → is_left s ≡ true → s.standing ≡ k → Carried (next_by k l s at).answer
by-carries going l s at e o = cut-carries (cutting (carried_in s ++ l)) (carried_in s ++ l) (length l) s at refl
by-carries ended l s at e o = stands-carries ended s e o
by-carries (stopped_for d) l s at e o = stands-carries (stopped_for d) s e o

-- 11, and what the end gives.
eleven-carries : {A : Type 0} → Carried {A = A} (refused_for (bare 11))
eleven-carries = carried-for (bare 11) (none (omega arith))

left-carries : (a b : Bool) → Carried (answer_of (cond a ended (cond b (stopped 1) (stopped 4))))
left-carries true b = carried-done _
left-carries false true = carried-for (bare 1) (none (omega arith))
left-carries false false = carried-for (bare 4) (none (omega arith))

ended-carries : (k : Standing) (s : State) → is_left s ≡ true → s.standing ≡ k → Carried (answer_of (ended_by k s).standing)
ended-carries going s e o = left-carries (eqb s.count 0) (ltb s.count 4)
ended-carries ended s e o = subst (λ (x : Standing). Carried (answer_of x)) (sym o) (stands-carries ended s e o)
ended-carries (stopped_for d) s e o = subst (λ (x : Standing). Carried (answer_of x)) (sym o) (stands-carries (stopped_for d) s e o)

-- Every call, on a state that some reading leaves and on any other.
next-carries : (b : Bool) (c : List ℕ) (s : State) (at : ℕ) → is_left s ≡ b → Carried (nexting c s at).answer
next-carries true c s at e =
    subst (λ (g : Given). Carried g.answer) (next-by c s at e s.standing refl) (by-carries s.standing (drop at c) s at e refl)
next-carries false c s at e = subst (λ (g : Given). Carried g.answer) (next-not c s at e) eleven-carries

close-carries : (b : Bool) (s : State) → is_left s ≡ b → Carried (closing s).answer
close-carries true s e = subst (λ (x : Closed). Carried x.answer) (end_by s e s.standing refl) (ended-carries s.standing s e refl)
close-carries false s e = subst (λ (x : Closed). Carried x.answer) (end-not s e) eleven-carries

-- A whole chunk: what stops a reading at one of its bytes carries so, and so does what had stopped it.
run-carries : (k : Standing) (s : State) (l : List ℕ) → is_left s ≡ true → (run s l).standing ≡ k → Carried (answer_of k)
unfolding ReaderCarries
run-carries going s l e o = carried-done _
run-carries ended s l e o = carried-done _
run-carries (stopped_for d) s l e o =
    carried-for d
    (fair-run Carries fault-carries (λ w k x q r. reader-carries (take k w) x r) s l
    (λ x h. stops-carry x (stops_as x (none-stopped s e x h).1)) d o)

scan-carries : (b : Bool) (c : List ℕ) (s : State) → is_left s ≡ b → Carried (scanning c s).answer
scan-carries true c s e =
    subst (λ (x : Scanned). Carried x.answer) (scan-left c s e) (run-carries (run s c).standing s c e refl)
scan-carries false c s e = subst (λ (x : Scanned). Carried x.answer) (scan-not c s e) eleven-carries

pub chunks-carry : ChunksCarry
chunks-carry =
    record {
      next = λ c s at. next-carries (is_left s) c s at refl;
      closing = λ s. close-carries (is_left s) s refl;
      scanning = λ c s. scan-carries (is_left s) c s refl;
    }

pub chunks-pass-on : ChunksPassOn
unfolding ChunksPassOn
chunks-pass-on c s at k e l o q r =
    let w = carried_in s ++ drop at c in
    sym (next-by c s at l going o)
    ∙ ap (λ (x : Cutting). next_cut x w (length (drop at c)) s at) q
    ∙ ap (λ (x : Outcome Telegram). next_judged x (take k w) k s at) r
