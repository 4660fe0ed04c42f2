-- What the bytes from a telegram's first on show: a law for each answer, from the facts that the tests show, and what each answer tells
-- of the bytes. Callers cite these and do not unfold `cutting`.
-- Assumes nothing.
use mathlib.Core.Path.{◌≡◌, refl, sym, ap, ◌∙◌}
use mathlib.Core.Bool.{Bool, true, false, cond, not}
use mathlib.Core.List.{List, [], ◌∷◌, ◌++◌}
use mathlib.Core.Logic.{◌⊎◌, inl, inr, ⊎_elim}
use Prim.Native.Nat.{ℕ, ◌+◌, ◌/◌, ◌<◌, ◌≤◌}
use native.Mathlib.Omega.{arith}
use borrow.Author.Tests.{lt-ltb, le-ltb, eq-eqb, ne_eqb, ltb-true, ltb-false, eqb-true, eqb-false, not-false}
use Rattle.std.proofs.lemmas.Bool.{cases_lt, cases_eq}
use lib.Dec.{eqb, ltb}
use lib.ListN.{length, get_or, take, drop, length-append, take-append-drop, get_or-append}
use lib.Seq.{length-take-le}
use Rattle.telegram.specs.Telegram.{preamble_in, index_in, size_of, Bytes}
use Rattle.frame.specs.Frame.{Cutting, incomplete, broken, whole, cutting}

pub cut-none : (s : List ℕ) → length s < 1 → incomplete ≡ cutting s
unfolding cutting
cut-none s h = simp (lt-ltb _ _ h)

module _ (s : List ℕ) (h₁ : 1 ≤ length s) where
  pub cut-preamble : (preamble_in s ≡ 10 → ⊥) → broken 2 ≡ cutting s
  unfolding cutting
  cut-preamble h = simp (le-ltb _ _ h₁, ne_eqb _ _ h)

  module _ (h₂ : preamble_in s ≡ 10) where
    pub cut-few : length s < 3 → incomplete ≡ cutting s
    unfolding cutting
    cut-few h = simp (le-ltb _ _ h₁, eq-eqb _ _ h₂, lt-ltb _ _ h)

    module _ (h₃ : 3 ≤ length s) where
      pub cut-index : index_in s ≡ 5 → broken 3 ≡ cutting s
      unfolding cutting
      cut-index h = simp (le-ltb _ _ h₁, eq-eqb _ _ h₂, le-ltb _ _ h₃, eq-eqb _ _ h)

      module _ (h₄ : index_in s ≡ 5 → ⊥) where
        pub cut-part : length s < 4 + size_of (index_in s) → incomplete ≡ cutting s
        unfolding cutting
        cut-part h = simp (le-ltb _ _ h₁, eq-eqb _ _ h₂, le-ltb _ _ h₃, ne_eqb _ _ h₄, lt-ltb _ _ h)

        pub cut-whole : 4 + size_of (index_in s) ≤ length s → whole (4 + size_of (index_in s)) ≡ cutting s
        unfolding cutting
        cut-whole h = simp (le-ltb _ _ h₁, eq-eqb _ _ h₂, le-ltb _ _ h₃, ne_eqb _ _ h₄, le-ltb _ _ h)

-- A test that did not hold: the answer is not the one that it would give.
passed : (b : Bool) (x y : Cutting) {z : Cutting} → (x ≡ z → ⊥) → cond b x y ≡ z → (b ≡ false) × (y ≡ z)
passed true x y f e = absurd (f e)
passed false x y f e = (refl, e)

not-whole : {n : ℕ} → incomplete ≡ whole n → ⊥
not-whole e = let z : ◌≡◌ {A = ℕ} 0 1 = cc in omega arith

not-broken : {n m : ℕ} → broken m ≡ whole n → ⊥
not-broken e = let z : ◌≡◌ {A = ℕ} 0 1 = cc in omega arith

whole-one : {n m : ℕ} → whole m ≡ whole n → m ≡ n
whole-one e = cc

-- What the bytes of a whole telegram of n bytes have.
pub record Complete (s : List ℕ) (n : ℕ) : Type 0 where
  pub enough : 3 ≤ length s
  pub preamble : preamble_in s ≡ 10
  pub index : index_in s ≡ 5 → ⊥
  pub size : 4 + size_of (index_in s) ≡ n
  pub count : n ≤ length s

pub complete : (s : List ℕ) (n : ℕ) → cutting s ≡ whole n → Complete s n
unfolding cutting
complete s n e =
    let p₁ = passed (ltb (length s) 1) _ _ not-whole e in
    let p₂ = passed (not (eqb (preamble_in s) 10)) _ _ not-broken p₁.1 in
    let p₃ = passed (ltb (length s) 3) _ _ not-whole p₂.1 in
    let p₄ = passed (eqb (index_in s) 5) _ _ not-broken p₃.1 in
    let p₅ = passed (ltb (length s) (4 + size_of (index_in s))) _ _ not-whole p₄.1 in
    let q : 4 + size_of (index_in s) ≡ n = whole-one p₅.1 in
    let r : 4 + size_of (index_in s) ≤ length s = ltb-false _ _ p₅.0 in
    record {
      enough = ltb-false _ _ p₃.0;
      preamble = eqb-true _ _ (not-false _ p₂.0);
      index = eqb-false _ _ p₄.0;
      size = q;
      count = omega arith;
    }

-- A payload has at most 8 bytes, so a telegram at most 12.
size-by : (b : Bool) (i : ℕ) → i < 8 → cond b 8 i ≤ 8
size-by true i h = omega arith
size-by false i h = omega arith

pub size-most : (s : List ℕ) → Bytes s → size_of (index_in s) ≤ 8
size-most s y = size-by (eqb (index_in s) 7) (index_in s) (omega (arith, y 1, y 2))

pub whole-most : (s : List ℕ) (n : ℕ) → Bytes s → cutting s ≡ whole n → n ≤ 12
whole-most s n y e = omega (arith, (complete s n e).size, size-most s y)

-- What bytes show, if it is more than that more are needed, they show with more bytes behind them too.
module _ (u v : List ℕ) where
  same_at : (k : ℕ) → k < length u → get_or (u ++ v) k 0 ≡ get_or u k 0
  same_at k h = get_or-append u v 0 k h

  same_index : 3 ≤ length u → index_in (u ++ v) ≡ index_in u
  same_index h = rw (same_at 1 (omega arith), same_at 2 (omega arith)) refl

  pub stable : (cutting u ≡ incomplete) ⊎ (cutting (u ++ v) ≡ cutting u)
  stable =
      let n : length (u ++ v) ≡ length u + length v = length-append u v in
      ⊎_elim (λ a. inl (sym (cut-none u a)))
      (λ a.
      let a' : 1 ≤ length (u ++ v) = omega arith in
      let e : preamble_in (u ++ v) ≡ preamble_in u = ap (λ (x : ℕ). x / 16) (same_at 0 a) in
      ⊎_elim (λ q. ⊎_elim (λ b. inl (sym (cut-few u a q b)))
      (λ b.
      let b' : 3 ≤ length (u ++ v) = omega arith in
      let i : index_in (u ++ v) ≡ index_in u = same_index b in
      let s : size_of (index_in (u ++ v)) ≡ size_of (index_in u) = ap size_of i in
      ⊎_elim (λ z. inr (sym (cut-index (u ++ v) a' (e ∙ q) b' (i ∙ z)) ∙ cut-index u a q b z))
      (λ z. ⊎_elim (λ m. inl (sym (cut-part u a q b z m)))
      (λ m.
      inr (sym (cut-whole (u ++ v) a' (e ∙ q) b' (λ x. z (sym i ∙ x)) (omega (arith, s))) ∙ ap (λ (k : ℕ). whole (4 + k)) s ∙ cut-whole u a q b z m))
      (cases_lt (length u) (4 + size_of (index_in u)))) (cases_eq (index_in u) 5)) (cases_lt (length u) 3))
      (λ q. inr (sym (cut-preamble (u ++ v) a' (λ x. q (sym e ∙ x))) ∙ cut-preamble u a q)) (cases_eq (preamble_in u) 10)) (cases_lt (length u) 1)

  -- The front of an unfinished telegram is unfinished.
  pub front-incomplete : cutting (u ++ v) ≡ incomplete → cutting u ≡ incomplete
  front-incomplete e = ⊎_elim (λ p. p) (λ q. sym q ∙ e) stable

-- Only 2 and 3 are refused here.
abbrev Fault : Cutting → Type 0
Fault k = (n : ℕ) → k ≡ broken n → (n ≡ 2) ⊎ (n ≡ 3)

fault-none : Fault incomplete
fault-none n e = let z : ◌≡◌ {A = ℕ} 0 1 = cc in absurd (omega arith)

fault-whole : (k : ℕ) → Fault (whole k)
fault-whole k n e = let z : ◌≡◌ {A = ℕ} 0 1 = cc in absurd (omega arith)

fault-2 : Fault (broken 2)
fault-2 n e = inl cc

fault-3 : Fault (broken 3)
fault-3 n e = inr cc

fault-cond : (b : Bool) (x y : Cutting) → Fault x → Fault y → Fault (cond b x y)
fault-cond true x y p q = p
fault-cond false x y p q = q

pub fault : (s : List ℕ) → Fault (cutting s)
unfolding cutting
fault s =
    fault-cond (ltb (length s) 1) _ _ fault-none
    (fault-cond (not (eqb (preamble_in s) 10)) _ _ fault-2
    (fault-cond (ltb (length s) 3) _ _ fault-none
    (fault-cond (eqb (index_in s) 5) _ _ fault-3
    (fault-cond (ltb (length s) (4 + size_of (index_in s))) _ _ fault-none (fault-whole (4 + size_of (index_in s)))))))

-- An unfinished telegram has at most 11 bytes.
abbrev Few : ℕ → Cutting → Type 0
Few m k = k ≡ incomplete → m ≤ 11

few-broken : (m n : ℕ) → Few m (broken n)
few-broken m n e = let z : ◌≡◌ {A = ℕ} 0 1 = cc in absurd (omega arith)

few-whole : (m n : ℕ) → Few m (whole n)
few-whole m n e = let z : ◌≡◌ {A = ℕ} 0 1 = cc in absurd (omega arith)

few-test : (m k : ℕ) (b : Bool) (y : Cutting) → k ≤ 12 → ltb m k ≡ b → Few m y → Few m (cond b incomplete y)
few-test m k true y h e f q = omega (arith, ltb-true m k e)
few-test m k false y h e f q = f q

few-cond : (m n : ℕ) (b : Bool) (y : Cutting) → Few m y → Few m (cond b (broken n) y)
few-cond m n true y f = few-broken m n
few-cond m n false y f = f

pub incomplete-short : (s : List ℕ) → Bytes s → cutting s ≡ incomplete → length s ≤ 11
unfolding cutting
incomplete-short s y =
    few-test (length s) 1 (ltb (length s) 1) _ (omega arith) refl
    (few-cond (length s) 2 (not (eqb (preamble_in s) 10)) _
    (few-test (length s) 3 (ltb (length s) 3) _ (omega arith) refl
    (few-cond (length s) 3 (eqb (index_in s) 5) _
    (few-test (length s) (4 + size_of (index_in s)) (ltb (length s) (4 + size_of (index_in s))) _ (omega (arith, size-most s y)) refl
    (few-whole (length s) (4 + size_of (index_in s)))))))

-- A refusal stays with more bytes behind it, and so does a whole telegram.
shown-more : (u v : List ℕ) {k : Cutting} → (k ≡ incomplete → ⊥) → cutting u ≡ k → cutting (u ++ v) ≡ k
shown-more u v f e = ⊎_elim (λ p. absurd (f (sym e ∙ p))) (λ p. p ∙ e) (stable u v)

pub broken-stays : (u v : List ℕ) (n : ℕ) → cutting u ≡ broken n → cutting (u ++ v) ≡ broken n
broken-stays u v n e = shown-more u v (λ p. let z : ◌≡◌ {A = ℕ} 0 1 = cc in omega arith) e

pub whole-stays : (u v : List ℕ) (n : ℕ) → cutting u ≡ whole n → cutting (u ++ v) ≡ whole n
whole-stays u v n e = shown-more u v (λ p. not-whole (sym p)) e

-- A whole telegram reaches past each unfinished front.
pub whole-past : (u v : List ℕ) (n : ℕ) → cutting u ≡ incomplete → cutting (u ++ v) ≡ whole n → length u < n
whole-past u v n e w =
    let q = complete (u ++ v) n w in
    ⊎_elim (λ h. h)
    (λ h.
    let a : 4 ≤ length u = omega (arith, q.size) in
    let p : preamble_in u ≡ 10 = sym (ap (λ (x : ℕ). x / 16) (same_at u v 0 (omega arith))) ∙ q.preamble in
    let i : index_in (u ++ v) ≡ index_in u = same_index u v (omega arith) in
    let k = cut-whole u (omega arith) p (omega arith) (λ x. q.index (i ∙ x)) (omega (arith, ap (λ (x : ℕ). 4 + size_of x) i, q.size)) in
    absurd (not-whole (sym e ∙ sym k)))
    (cases_lt (length u) n)

-- Where the last byte makes it whole, it is these bytes and no more.
pub whole-last : (u : List ℕ) (b n : ℕ) → cutting u ≡ incomplete → cutting (u ++ b ∷ []) ≡ whole n → length (u ++ b ∷ []) ≡ n
whole-last u b n e w = omega (arith, whole-past u (b ∷ []) n e w, (complete (u ++ b ∷ []) n w).count, length-append u (b ∷ []))

-- The front that a whole telegram has is whole by itself.
pub front-whole : (s : List ℕ) (n : ℕ) → cutting s ≡ whole n → cutting (take n s) ≡ whole n
front-whole s n e =
    let j : take n s ++ drop n s ≡ s = take-append-drop n s in
    let w : cutting (take n s ++ drop n s) ≡ whole n = rw j e in
    ⊎_elim
    (λ p. absurd (omega (arith, whole-past (take n s) (drop n s) n p w, length-take-le n s (complete s n e).count)))
    (λ p. sym p ∙ w)
    (stable (take n s) (drop n s))
