-- A telegram has at most twelve bytes: what the next telegram is, the first twelve bytes decide.
-- Assumes nothing.
use Rattle.std.proofs.Common.{◌≡◌, ℕ, ◌+◌, ◌-◌, ◌<◌, ◌≤◌, min, List, ◌++◌, length, take, drop, sym, refl, ap, ◌∙◌, ⊎_elim, arith, length-append, take-append-drop, length-take-le, take-take}
use Rattle.std.proofs.lemmas.Bool.{cases_lt}
use lib.Seq.{take-append-add, take-length}
use Rattle.telegram.specs.Telegram.{reading, Bytes}
use Rattle.frame.specs.Frame.{Cutting, incomplete, broken, whole, cutting}
use Rattle.frame.proofs.Cuts.{incomplete-short, stable, whole-most}
use Rattle.frame.proofs.Fronts.{bytes_take}
use Rattle.capture.specs.State.{State}
use Rattle.capture.specs.Calls.{next_cut, next_judged}

-- Of twelve bytes or more the first twelve show what all show, and are not unfinished ..
module _ (w : List ℕ) (y : Bytes w) (h : 12 ≤ length w) where
  pub twelve-cut : cutting (take 12 w) ≡ cutting w
  twelve-cut =
      ⊎_elim
      (λ e. absurd (omega (arith, length-take-le 12 w h, incomplete-short (take 12 w) (bytes_take 12 w y) e)))
      (λ e. sym e ∙ ap cutting (take-append-drop 12 w))
      (stable (take 12 w) (drop 12 w))

  module _ (m m' : ℕ) (s : State) (at : ℕ) where
    twelve-by : (k : Cutting) → cutting w ≡ k → next_cut k (take 12 w) m s at ≡ next_cut k w m' s at
    twelve-by incomplete e = absurd (omega (arith, incomplete-short w y e))
    twelve-by (broken n) e = refl
    twelve-by (whole k) e = ap (λ (c : List ℕ). next_judged (reading c) c k s at) (take-take k 12 w (whole-most w k y e))

    -- .. so a call on them gives what a call on all gives, however many bytes of the chunk each has.
    pub twelve : next_cut (cutting (take 12 w)) (take 12 w) m s at ≡ next_cut (cutting w) w m' s at
    twelve = rw twelve-cut (twelve-by (cutting w) refl)

-- The bytes c that are carried with those of the chunk, l, behind them, twelve at most.
module _ (c l : List ℕ) (y : Bytes (c ++ l)) (h : length c ≤ 12) (s : State) (at : ℕ) where
  pub up-to-twelve : (m : ℕ) → m ≡ min (12 - length c) (length l)
      → next_cut (cutting (c ++ take m l)) (c ++ take m l) m s at ≡ next_cut (cutting (c ++ l)) (c ++ l) (length l) s at
  up-to-twelve m q =
      ⊎_elim
      (λ (e : 12 - length c < length l).
      let n : length c + m ≡ 12 = omega arith in
      let t : take 12 (c ++ l) ≡ c ++ take m l = sym (ap (λ (i : ℕ). take i (c ++ l)) n) ∙ take-append-add c l m in
      rw (← t) (twelve (c ++ l) y (simp length-append (omega arith)) m (length l) s at))
      (λ (e : length l ≤ 12 - length c). let n : m ≡ length l = omega arith in rw (n, take-length l) refl)
      (cases_lt (12 - length c) (length l))
