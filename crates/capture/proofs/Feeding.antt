-- No byte and one byte more, as calls on an open reading; and by the state that a byte leaves, whether it completed a telegram.
-- Assumes nothing.
use Rattle.std.proofs.Common.{◌≡◌, ℕ, ◌+◌, ◌≤◌, true, List, [], ◌∷◌, ◌++◌, length, take, sym, refl, ap, ◌∙◌, subst, append-nil, arith, length-append}
use Rattle.telegram.specs.Numbers.{Reason, Outcome, refused_for, done}
use Rattle.telegram.specs.Telegram.{reading}
use Rattle.telegram.specs.declared.Telegram.{Telegram}
use Rattle.frame.specs.Frame.{Cutting, incomplete, broken, whole, cutting}
use Rattle.capture.specs.State.{Standing, going, stopped_for, State, carrying, carried_in, is_left}
use Rattle.capture.specs.Run.{judged, grown, fed, fed_by, accepted_by, completed_by, given, given_by}
use Rattle.capture.specs.Calls.{more, without, next_cut, next_by}
use Rattle.capture.specs.Uncut.{Final}
use Rattle.capture.proofs.States.{carried-incomplete, is-carrying}
use Rattle.capture.proofs.Telegrams.{next-state}

-- No byte: more are needed, and nothing changes.
pub next-none : (s : State) (at : ℕ) → length s.bytes ≡ 12 → is_left s ≡ true → s.standing ≡ going
    → without (done more) at s ≡ next_by going [] s at
next-none s at n e o =
    let c = carried_in s in
    let x : cutting (c ++ []) ≡ incomplete = ap cutting (append-nil c) ∙ carried-incomplete s e o in
    let m : at ≡ at + 0 = omega arith in
    ap (λ (i : ℕ). without (done more) i s) m
    ∙ ap (λ (z : State). without (done more) (at + 0) z) (sym (is-carrying s n e o))
    ∙ ap (λ (w : List ℕ). without (done more) (at + 0) (carrying w s.position)) (sym (append-nil c))
    ∙ sym (ap (λ (k : Cutting). next_cut k (c ++ []) 0 s at) x)

-- The telegrams ts that a byte completed, told by the state z that it left: one, or none.
pub record Tells (ts : List (List ℕ)) (z : State) : Type 0 where
  pub one : z.standing ≡ going → z.count ≡ 0 → length ts ≡ 1
  pub none : z.standing ≡ going → (z.count ≡ 0 → ⊥) → ts ≡ []
  pub stop : Final z.standing → ts ≡ []

not_going : {A : Type 0} {d : Reason} → stopped_for d ≡ going → A
not_going e = let z : ◌≡◌ {A = ℕ} 0 1 = cc in absurd (omega arith)

tells-judged : (o : Outcome Telegram) (c : List ℕ) (k p : ℕ) → Tells (accepted_by o c) (judged o k p)
tells-judged (done t) c k p = record { one = λ e z. refl; none = λ e f. absurd (f refl); stop = λ f. absurd f }
tells-judged (refused_for d) c k p = record { one = λ e z. not_going e; none = λ e f. refl; stop = λ f. refl }

tells-grown : (k : Cutting) (w : List ℕ) (p : ℕ) → 1 ≤ length w → Tells (completed_by k w) (grown k w p)
tells-grown incomplete w p h = record { one = λ e z. absurd (omega arith); none = λ e f. refl; stop = λ f. refl }
tells-grown (broken n) w p h = record { one = λ e z. not_going e; none = λ e f. refl; stop = λ f. refl }
tells-grown (whole k) w p h = tells-judged (reading (take k w)) (take k w) k p

module _ (s : State) (b : ℕ) (o : s.standing ≡ going) where
  abbrev w : List ℕ
  w = carried_in s ++ b ∷ []

  open-fed : fed s b ≡ grown (cutting w) w s.position
  open-fed = ap (λ (k : Standing). fed_by k s b) o

  open-given : given s b ≡ completed_by (cutting w) w
  open-given = ap (λ (k : Standing). given_by k s b) o

  -- A call on these bytes leaves what the byte leaves.
  pub fed-next : (m at : ℕ) → (next_cut (cutting w) w m s at).state ≡ fed s b
  fed-next m at = next-state (cutting w) w m s at ∙ sym open-fed

  -- The byte completed a telegram where the reading goes on and carries nothing, and only there.
  pub tells : Tells (given s b) (fed s b)
  tells =
      subst (λ (ts : List (List ℕ)). Tells ts (fed s b)) (sym open-given)
      (subst (λ (z : State). Tells (completed_by (cutting w) w) z) (sym open-fed)
      (tells-grown (cutting w) w s.position (simp length-append (omega arith))))
