-- However a run is cut, its telegrams and the state that it leaves are those of the uncut run; and such calls exist.
-- Assumes nothing.
use Rattle.std.proofs.Common.{◌≡◌, ℕ, zero, suc, ◌-◌, ◌<◌, List, [], ◌∷◌, ◌++◌, length, drop, sym, refl, ap, ◌∙◌, subst, ap₂, arith}
use Rattle.telegram.specs.Telegram.{Bytes}
use Rattle.capture.specs.State.{State}
use Rattle.capture.specs.Run.{run, telegrams_in}
use Rattle.capture.specs.Calls.{nexting, scanned, told, Calls, last, next, Chunks, none, chunk, joined}
use Rattle.capture.specs.Uncut.{Taken, AllBytes, AsUncut, ByTelegrams, EveryCuttingSame, CutTwoWays, EveryCuttingHasCalls, ScanIsCalls}
use Rattle.capture.proofs.States.{scan-left}
use Rattle.capture.proofs.Runs.{run-append, telegrams-append}
use Rattle.capture.proofs.Taken.{taken-run, taken_next}
use Rattle.capture.proofs.Telegrams.{next-ahead-of, by-telegrams}

-- The calls on a chunk, from an index on.
pub calls_same : {c : List ℕ} {s s' : State} {at : ℕ} {ts : List (List ℕ)} → Calls c s at ts s' → Taken s → Bytes c
    → AsUncut s (drop at c) ts s'
unfolding ByTelegrams
calls_same {c} {s} {at = at} (last e) t y = (by-telegrams c s at t).last e
calls_same {c} {s} {at = at} (next {t = x} e k) t y =
    let w = by-telegrams c s at t in
    let q = calls_same k (taken_next c s at t y) y in
    record {
      telegrams = ap₂ (λ (a b : List (List ℕ)). a ++ b) (sym e) q.telegrams ∙ sym w.telegrams;
      state = q.state ∙ sym w.state;
    }

-- Chunks one after the other.
chunks-same : {cs : List (List ℕ)} {s s' : State} {ts : List (List ℕ)} → Chunks cs s ts s' → Taken s → AllBytes cs
    → AsUncut s (joined cs) ts s'
chunks-same none t y = record { telegrams = refl; state = refl }
chunks-same {s = s} (chunk {c} {cs} k m) t y =
    let a = calls_same k t y.0 in
    let b = chunks-same m (subst Taken (sym a.state) (taken-run s c t y.0)) y.1 in
    record {
      telegrams =
          ap₂ (λ (x z : List (List ℕ)). x ++ z) a.telegrams (b.telegrams ∙ ap (λ (z : State). telegrams_in z (joined cs)) a.state)
          ∙ sym (telegrams-append s c (joined cs));
      state = b.state ∙ ap (λ (z : State). run z (joined cs)) a.state ∙ sym (run-append s c (joined cs));
    }

-- However a run is cut.
pub cut-same : EveryCuttingSame
unfolding EveryCuttingSame
cut-same cs s s' ts y t k = chunks-same k t y

-- Two cuttings of one run.
pub cut-two-ways : CutTwoWays
unfolding CutTwoWays
cut-two-ways cs ds s s' s'' ts us x y e t h k =
    let a = chunks-same h t x in
    let b = chunks-same k t y in (
      a.telegrams ∙ ap (λ (l : List ℕ). telegrams_in s l) e ∙ sym b.telegrams,
      a.state ∙ ap (λ (l : List ℕ). run s l) e ∙ sym b.state,
    )

-- A chunk that is read whole.
pub scan-is-calls : ScanIsCalls
unfolding ScanIsCalls
scan-is-calls c s s' ts y t k =
    let a = calls_same k t y in
    sym (scan-left c s t.leaves)
    ∙ sym (ap₂ (λ (x : List (List ℕ)) (z : State). scanned (length x) z) a.telegrams a.state)

-- The calls on a chunk come to an end, since each that gives a telegram goes on in the chunk.
abbrev Made : List ℕ → State → ℕ → Type 0
Made c s at = (ts : List (List ℕ)) × (s' : State) × Calls c s at ts s'

made_by : (v : List (List ℕ)) (c : List ℕ) (s : State) (at : ℕ) → Taken s → Bytes c → told (nexting c s at) ≡ v
    → ((s' : State) (at' : ℕ) → length c - at' < length c - at → Taken s' → Made c s' at') → Made c s at
made_by [] c s at t y e k = ([], (nexting c s at).state, last e)
made_by (x ∷ v) c s at t y e k =
    let a = next-ahead-of c s at t e in
    let w = k (nexting c s at).state (nexting c s at).at (omega (arith, a.on, a.within)) (taken_next c s at t y) in
    (x ∷ w.0, w.1, next (e ∙ ap (λ (z : List (List ℕ)). x ∷ z) a.one) w.2)

made : (n : ℕ) (c : List ℕ) (s : State) (at : ℕ) → length c - at < n → Taken s → Bytes c → Made c s at
made zero c s at h t y = absurd (omega arith)
made (suc n) c s at h t y = made_by (told (nexting c s at)) c s at t y refl (λ s' at' d q. made n c s' at' (omega arith) q y)

-- Whatever the chunks, such calls exist.
pub cut-has-calls : EveryCuttingHasCalls
unfolding EveryCuttingHasCalls
cut-has-calls [] s y t = ([], s, none)
cut-has-calls (c ∷ cs) s y t =
    let w = made (suc (length c)) c s 0 (omega arith) t y.0 in
    let q = calls_same w.2 t y.0 in
    let v = cut-has-calls cs w.1 y.1 (subst Taken (sym q.state) (taken-run s c t y.0)) in
    (w.0 ++ v.0, v.1, chunk w.2 v.2)
