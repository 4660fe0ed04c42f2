-- The run of a capture: cut in two, at rest, and telegram by telegram. What the bytes show at once is what they come to one by one.
-- Assumes nothing.
use Rattle.std.proofs.Common.{◌≡◌, ℕ, List, [], ◌∷◌, ◌++◌, length, drop, sym, refl, ap, ◌∙◌, ap₂, append_assoc, append-nil, arith, take_all, take_at, drop_at}
use Rattle.telegram.specs.Telegram.{reading}
use Rattle.frame.specs.Frame.{Cutting, incomplete, broken, whole, cutting}
use Rattle.frame.proofs.Cuts.{broken-stays, whole-stays, whole-last}
use Rattle.capture.specs.State.{Standing, going, ended, stopped_for, stopped, State, carrying, resting}
use Rattle.capture.specs.Run.{grown, judged, fed, fed_by, accepted_by, completed_by, given, given_by, run, telegrams_in}
use Rattle.capture.specs.Uncut.{Final}
use Rattle.capture.proofs.States.{carried-back}

-- A run that is cut in two.
pub run-append : (s : State) (a b : List ℕ) → run s (a ++ b) ≡ run (run s a) b
run-append s [] b = refl
run-append s (x ∷ a) b = run-append (fed s x) a b

pub telegrams-append : (s : State) (a b : List ℕ) → telegrams_in s (a ++ b) ≡ telegrams_in s a ++ telegrams_in (run s a) b
telegrams-append s [] b = refl
telegrams-append s (x ∷ a) b = rw (telegrams-append (fed s x) a b, append_assoc) refl

-- What bytes give from a state on: the state that they leave, and the telegrams.
abbrev pub Gives : Type 0
Gives = State × List (List ℕ)

abbrev pub gives : State → List ℕ → Gives
gives s l = (run s l, telegrams_in s l)

-- A reading that has ended or was stopped stays as it is, and gives no telegram.
final-fed : (k : Standing) (s : State) (b : ℕ) → Final k → fed_by k s b ≡ s
final-fed going s b o = absurd o
final-fed ended s b o = refl
final-fed (stopped_for d) s b o = refl

final-given : (k : Standing) (s : State) (b : ℕ) → Final k → given_by k s b ≡ []
final-given going s b o = absurd o
final-given ended s b o = refl
final-given (stopped_for d) s b o = refl

pub stays : (s : State) → Final s.standing → (l : List ℕ) → gives s l ≡ (s, [])
stays s o [] = refl
stays s o (b ∷ l) = rw (final-fed s.standing s b o, final-given s.standing s b o) (stays s o l)

-- One byte more, behind those that are carried.
module _ (c : List ℕ) (p b : ℕ) where
  pub fed-carrying : fed (carrying c p) b ≡ grown (cutting (c ++ b ∷ [])) (c ++ b ∷ []) p
  fed-carrying = ap (λ (x : List ℕ). grown (cutting (x ++ b ∷ [])) (x ++ b ∷ []) p) (carried-back c p)

  pub given-carrying : given (carrying c p) b ≡ completed_by (cutting (c ++ b ∷ [])) (c ++ b ∷ [])
  given-carrying = ap (λ (x : List ℕ). completed_by (cutting (x ++ b ∷ [])) (x ++ b ∷ [])) (carried-back c p)

-- The bytes behind those that show a whole telegram. (Where more are needed there are none, and behind a refusal none is read.)
abbrev pub behind : Cutting → List ℕ → List ℕ
behind incomplete w = []
behind (broken n) w = []
behind (whole k) w = drop k w

-- What the bytes w give, of which the first is at position p and which show k, and then the bytes l.
abbrev pub shows : Cutting → List ℕ → ℕ → List ℕ → Gives
shows k w p l = (run (grown k w p) l, completed_by k w ++ telegrams_in (grown k w p) l)

-- What the bytes w give, by what they show and then byte by byte.
abbrev pub at_once : List ℕ → ℕ → Gives
at_once w p = shows (cutting w) w p (behind (cutting w) w)

-- The first of the bytes that are read.
pub first-fed : (c r : List ℕ) (p b : ℕ) → gives (carrying c p) (b ∷ r) ≡ shows (cutting (c ++ b ∷ [])) (c ++ b ∷ []) p r
first-fed c r p b = ap₂ (λ (s : State) (ts : List (List ℕ)). (run s r, ts ++ telegrams_in s r)) (fed-carrying c p b) (given-carrying c p b)

module _ (c r : List ℕ) (p b : ℕ) (e : cutting c ≡ incomplete) where
  uncut-by : (k : Cutting) → cutting (c ++ b ∷ []) ≡ k
      → (k ≡ incomplete → gives (carrying (c ++ b ∷ []) p) r ≡ at_once ((c ++ b ∷ []) ++ r) p)
      → shows k (c ++ b ∷ []) p r ≡ at_once ((c ++ b ∷ []) ++ r) p
  uncut-by incomplete q h = h refl
  uncut-by (broken n) q h =
      let w = (c ++ b ∷ []) ++ r in
      let x : cutting w ≡ broken n = broken-stays (c ++ b ∷ []) r n q in
      stays (resting (stopped n) p) tt r ∙ sym (ap (λ (k : Cutting). shows k w p (behind k w)) x)
  uncut-by (whole k) q h =
      let u = c ++ b ∷ [] in
      let w = u ++ r in
      let x : cutting w ≡ whole k = whole-stays u r k q in
      let n : length u ≡ k = whole-last c b k e q in
      ap₂ (λ (t l : List ℕ). (run (judged (reading t) k p) l, accepted_by (reading t) t ++ telegrams_in (judged (reading t) k p) l))
      (take_all k u (omega arith) ∙ sym (take_at u r k n)) (sym (drop_at u r k n))
      ∙ sym (ap (λ (k : Cutting). shows k w p (behind k w)) x)

-- An open reading that carries the bytes c of an unfinished telegram, and reads r: what c and r show at once.
pub uncut : (r c : List ℕ) (p : ℕ) → cutting c ≡ incomplete → gives (carrying c p) r ≡ at_once (c ++ r) p
uncut [] c p e =
    let x : cutting (c ++ []) ≡ incomplete = ap cutting (append-nil c) ∙ e in
    ap (λ (w : List ℕ). (carrying w p, [])) (sym (append-nil c)) ∙ sym (ap (λ (k : Cutting). shows k (c ++ []) p (behind k (c ++ []))) x)
uncut (b ∷ r) c p e =
    first-fed c r p b ∙ uncut-by c r p b e (cutting (c ++ b ∷ [])) refl (λ q. uncut r (c ++ b ∷ []) p q)
    ∙ ap (λ (w : List ℕ). at_once w p) (append_assoc c (b ∷ []) r)
