-- What is known of a choice, and of an order of tests that came out done.
-- Assumes nothing.
use mathlib.Core.Path.{◌≡◌, refl, sym, ap, ◌∙◌}
use mathlib.Core.Bool.{Bool, true, false, cond}
use mathlib.Core.List.{List}
use Prim.Native.Nat.{ℕ, ◌≤◌, ◌<◌}
use native.Mathlib.Omega.{arith}
use lib.ListN.{length}
use borrow.Author.Tests.{lt-ltb, le-ltb}
use Rattle.telegram.specs.Numbers.{Reason, bare, Outcome, refused_for, refused, done, refuse_for, refuse, after, fitted, front, leaves}

-- What holds of both holds of the one that a test picks; of the first it is asked only where the test is true.
pub where-true : {A : Type 0} {x y : A} (P : A → Type 0) (b : Bool) → (b ≡ true → P x) → P y → P (cond b x y)
where-true P true h k = h refl
where-true P false h k = k

pub either : {A : Type 0} {x y : A} (P : A → Type 0) (b : Bool) → P x → P y → P (cond b x y)
either P b h k = where-true P b (λ e. h) k

-- A refusal is never done.
pub never : {A : Type 0} {e : Reason} {a : A} → ◌≡◌ {A = Outcome A} (refused_for e) (done a) → ⊥
never q = let z : ◌≡◌ {A = ℕ} 0 1 = cc in omega arith

-- What is done is done with one value.
pub done-one : {A : Type 0} {a b : A} → ◌≡◌ {A = Outcome A} (done a) (done b) → a ≡ b
done-one e = cc

-- What is refused is refused for one reason.
pub refused-one : {A : Type 0} {d e : Reason} → ◌≡◌ {A = Outcome A} (refused_for d) (refused_for e) → d ≡ e
refused-one q = cc

-- A test that did not refuse did not hold, and the rest is done.
pub passed-for : {A : Type 0} (b : Bool) (d : Reason) (rest : Outcome A) {a : A} → refuse_for b d rest ≡ done a
    → (b ≡ false) × (rest ≡ done a)
passed-for true d rest e = absurd (never e)
passed-for false d rest e = (refl, e)

pub passed : {A : Type 0} (b : Bool) (n : ℕ) (rest : Outcome A) {a : A} → refuse b n rest ≡ done a → (b ≡ false) × (rest ≡ done a)
passed b n rest e = passed-for b (bare n) rest e

-- Where what comes after is done, so was what came before.
pub went_on : {A B : Type 0} (o : Outcome A) (next : A → Outcome B) {b : B} → after o next ≡ done b
    → (a : A) × ((o ≡ done a) × (next a ≡ done b))
went_on (refused_for d) next e = absurd (never e)
went_on (done a) next e = (a, (refl, e))

-- What goes on after a refusal, and after a value.
pub after-refused : {A B : Type 0} (o : Outcome A) (next : A → Outcome B) {d : Reason} → o ≡ refused_for d → after o next ≡ refused_for d
after-refused o next e = ap (λ (x : Outcome _). after x next) e

pub after-done : {A B : Type 0} (o : Outcome A) (next : A → Outcome B) {a : A} → o ≡ done a → after o next ≡ next a
after-done o next e = ap (λ (x : Outcome _). after x next) e

-- A result that does not fit the room, and one that does.
pub fit_small : (room : ℕ) (s : List ℕ) → room < length s → fitted room s ≡ refused 9
fit_small room s h = simp (lt-ltb _ _ h)

pub fit-done : (room : ℕ) (s : List ℕ) → length s ≤ room → fitted room s ≡ done s
fit-done room s h = simp (le-ltb _ _ h)

-- What a function f says of an outcome that is bytes, and what that leaves in the room: where it is a refusal, where it is done,
-- and of an equal outcome.
module _ {B : Type 0} (f : Outcome (List ℕ) → B) (room : List ℕ) where
  pub told-refused : (o : Outcome (List ℕ)) {d : Reason} {r : B} → o ≡ refused_for d → r ≡ f (refused_for d)
      → (r ≡ f o) × (room ≡ leaves o room)
  told-refused o e t = (t ∙ sym (ap f e), sym (ap (λ (x : Outcome (List ℕ)). leaves x room) e))

  pub told-done : (o : Outcome (List ℕ)) {s left : List ℕ} {r : B} → o ≡ done s → r ≡ f (done s) → left ≡ front s room
      → (r ≡ f o) × (left ≡ leaves o room)
  told-done o e t w = (t ∙ sym (ap f e), w ∙ sym (ap (λ (x : Outcome (List ℕ)). leaves x room) e))

  pub told_same : {o q : Outcome (List ℕ)} {r : B} {left : List ℕ} → o ≡ q → r ≡ f o → left ≡ leaves o room
      → (r ≡ f q) × (left ≡ leaves q room)
  told_same e t w = (t ∙ ap f e, w ∙ ap (λ (x : Outcome (List ℕ)). leaves x room) e)
