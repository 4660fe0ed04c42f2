-- Every telegram of a run is accepted by the telegram reader, and joined they are the run's bytes up to what is left over; and telegrams
-- that the reader accepts, joined, are the telegrams of the run.
-- Assumes nothing.
use Rattle.std.proofs.Common.{◌≡◌, ℕ, ◌+◌, List, [], ◌∷◌, ◌++◌, length, take, sym, refl, ap, ◌∙◌, subst, ap₂, append_assoc, append-nil, arith, length-append, take_all}
use lib.Seq.{take-append-le, take-append_seam, drop-append_seam}
use Rattle.telegram.specs.Numbers.{Reason, bare, Outcome, refused_for, done}
use Rattle.telegram.specs.Telegram.{reading}
use Rattle.telegram.specs.declared.Telegram.{Telegram}
use Rattle.frame.specs.Frame.{Cutting, incomplete, broken, whole, cutting}
use Rattle.frame.proofs.Cuts.{broken-stays, whole-stays, whole-last}
use Rattle.frame.proofs.Fronts.{none-incomplete, accepted-whole}
use Rattle.capture.specs.State.{stopped_for, stopped, carrying, resting}
use Rattle.capture.specs.Run.{wrapped, judged, grown, accepted_by, run, telegrams_in}
use Rattle.capture.specs.Calls.{joined}
use Rattle.capture.specs.Uncut.{Position, Accounted, AcceptedByReader, AcceptedAreGiven}
use Rattle.capture.proofs.States.{carried-back}
use Rattle.capture.proofs.Runs.{Gives, gives, stays, shows, behind, first-fed, uncut}

-- A run is its telegrams and what is left over: the bytes w, of which the first is at position p, and what they give.
abbrev Account : ℕ → List ℕ → Gives → Type 0
Account p w x = Accounted p w x.1 x.0

-- A reading that is stopped by what its bytes w show: all are left over.
stopped-account : (w : List ℕ) (p : ℕ) (d : Reason) → Position p → grown (cutting w) w p ≡ resting (stopped_for d) p
    → Account p w (resting (stopped_for d) p, [])
stopped-account w p d h e =
    let m : p ≡ wrapped (p + 0) = omega arith in
    record { accepted = tt; rest = w; bytes = refl; position = m; stands = e }

-- Bytes l behind those that are carried are accounted for.
abbrev Accounts : List ℕ → Type 0
Accounts l = (c : List ℕ) (p : ℕ) → Position p → cutting c ≡ incomplete → Account p (c ++ l) (gives (carrying c p) l)

-- The last byte of u makes the telegram whole.
module _ (u l : List ℕ) (p k : ℕ) (h : Position p) (q : cutting u ≡ whole k) (n : length u ≡ k) (r : Accounts l) where
  same : take k u ≡ u
  same = take_all k u (omega arith)

  judged-account : (o : Outcome Telegram) → reading (take k u) ≡ o
      → Account p (u ++ l) (run (judged o k p) l, accepted_by o (take k u) ++ telegrams_in (judged o k p) l)
  judged-account (done t) e =
      let i = r [] (wrapped (p + k)) (omega arith) none-incomplete in
      let ts = telegrams_in (carrying [] (wrapped (p + k))) l in
      let m : wrapped (wrapped (p + k) + length (joined ts)) ≡ wrapped (p + length (take k u ++ joined ts)) =
      omega (arith, length-append (take k u) (joined ts), ap length same) in
      record {
        accepted = ((t, e), i.accepted);
        rest = i.rest;
        bytes = append_assoc (take k u) (joined ts) i.rest ∙ ap₂ (λ (a b : List ℕ). a ++ b) same i.bytes;
        position = i.position ∙ m;
        stands = i.stands;
      }
  judged-account (refused_for d) e =
      let x : cutting (u ++ l) ≡ whole k = whole-stays u l k q in
      let y : reading (take k (u ++ l)) ≡ refused_for d = ap reading (take-append-le k u l (omega arith)) ∙ e in
      subst (λ (z : Gives). Account p (u ++ l) z) (sym (stays (resting (stopped_for d) p) tt l))
      (stopped-account (u ++ l) p d h (ap (λ (c : Cutting). grown c (u ++ l) p) x ∙ ap (λ (o : Outcome Telegram). judged o k p) y))

shown-account : (l c : List ℕ) (b p : ℕ) → Position p → cutting c ≡ incomplete → Accounts l → (k : Cutting) → cutting (c ++ b ∷ []) ≡ k
    → Account p ((c ++ b ∷ []) ++ l) (shows k (c ++ b ∷ []) p l)
shown-account l c b p h e r incomplete q = r (c ++ b ∷ []) p h q
shown-account l c b p h e r (broken n) q =
    let w = (c ++ b ∷ []) ++ l in
    let x : cutting w ≡ broken n = broken-stays (c ++ b ∷ []) l n q in
    subst (λ (z : Gives). Account p w z) (sym (stays (resting (stopped n) p) tt l))
    (stopped-account w p (bare n) h (ap (λ (k : Cutting). grown k w p) x))
shown-account l c b p h e r (whole k) q = judged-account (c ++ b ∷ []) l p k h q (whole-last c b k e q) r _ refl

-- Every list of bytes is accounted for.
account : (l : List ℕ) → Accounts l
account [] c p h e =
    let m : p ≡ wrapped (p + 0) = omega arith in
    record { accepted = tt; rest = c; bytes = sym (append-nil c); position = m; stands = sym (carried-back c p) }
account (b ∷ l) c p h e =
    subst (λ (z : Gives). Account p (c ++ b ∷ l) z) (sym (first-fed c l p b))
    (subst (λ (w : List ℕ). Account p w (shows (cutting (c ++ b ∷ [])) (c ++ b ∷ []) p l)) (append_assoc c (b ∷ []) l)
    (shown-account l c b p h e (account l) (cutting (c ++ b ∷ [])) refl))

-- From a fresh state on.
pub accepted-by-reader : AcceptedByReader
unfolding AcceptedByReader
accepted-by-reader p l h = account l [] p h none-incomplete

-- A telegram that the reader accepts is the first of the run.
pub accepted-given : (t : List ℕ) (x : Telegram) (p : ℕ) (l : List ℕ) → reading t ≡ done x
    → gives (carrying [] p) (t ++ l)
    ≡ (run (carrying [] (wrapped (p + length t))) l, t ∷ telegrams_in (carrying [] (wrapped (p + length t))) l)
accepted-given t x p l e =
    let w = t ++ l in
    let k = length t in
    uncut w [] p none-incomplete ∙ ap (λ (k : Cutting). shows k w p (behind k w)) (accepted-whole t l x e)
    ∙ ap₂ (λ (a b : List ℕ). (run (judged (reading a) k p) b, accepted_by (reading a) a ++ telegrams_in (judged (reading a) k p) b))
    (take-append_seam t l) (drop-append_seam t l)
    ∙ ap (λ (o : Outcome Telegram). (run (judged o k p) l, accepted_by o t ++ telegrams_in (judged o k p) l)) e

-- A list of them.
pub accepted-are-given : AcceptedAreGiven
unfolding AcceptedAreGiven
accepted-are-given [] p l h a =
    let m : p ≡ wrapped (p + 0) = omega arith in
    (ap (λ (i : ℕ). run (carrying [] i) l) m, ap (λ (i : ℕ). telegrams_in (carrying [] i) l) m)
accepted-are-given (t ∷ ts) p l h a =
    let f = accepted-given t a.0.0 p (joined ts ++ l) a.0.1 in
    let i = accepted-are-given ts (wrapped (p + length t)) l (omega arith) a.1 in
    let m : wrapped (wrapped (p + length t) + length (joined ts)) ≡ wrapped (p + length (t ++ joined ts)) =
    omega (arith, length-append t (joined ts)) in
    let j = append_assoc t (joined ts) l in (
      ap (λ (w : List ℕ). run (carrying [] p) w) j ∙ ap (λ (z : Gives). z.0) f ∙ i.0 ∙ ap (λ (n : ℕ). run (carrying [] n) l) m,
      ap (λ (w : List ℕ). telegrams_in (carrying [] p) w) j ∙ ap (λ (z : Gives). z.1) f
          ∙ ap (λ (z : List (List ℕ)). t ∷ z) (i.1 ∙ ap (λ (n : ℕ). ts ++ telegrams_in (carrying [] n) l) m),
    )
