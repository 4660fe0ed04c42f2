-- A list written over the front of another, and how stores make it longer. Assumes nothing.
use mathlib.Core.Path.{◌≡◌, ◌∙◌, sym, ap, ap₂}
use mathlib.Core.List.{List, [], ◌∷◌, ◌++◌, append_assoc, append-nil}
use Prim.Native.Nat.{ℕ, ◌+◌, ◌-◌, ◌<◌, ◌≤◌}
use native.Mathlib.Omega.{arith}
use native.Mathlib.Numerals.{add-one}
use lib.ListN.{length, take, drop, set, get_or, length-append, length-drop}
use lib.Seq.{drop-cons, set-append_seam, append_snoc, take-append_seam, drop-append-add, drop-drop, drop-length, take-length, take_all}
use borrow.Rule.Slice.PartMut.{put_mid, Post-is}
use Rattle.checksum.specs.Checksum.{checksum_of}
use Rattle.telegram.specs.Numbers.{front}
use Rattle.telegram.specs.Telegram.{header, unsealed, telegram_of, index_of}

-- A list with the bytes s written over it from an index on.
abbrev pub overwritten : List ℕ → ℕ → List ℕ → List ℕ
overwritten d at s = (take at d ++ s) ++ drop (at + length s) d

pub front-take : (bs out : List ℕ) → take (length bs) (front bs out) ≡ bs
front-take bs out = take-append_seam bs (drop (length bs) out)

pub front-set : (bs out : List ℕ) (v : ℕ) → length bs < length out
    → set (front bs out) (length bs) v ≡ front (bs ++ (v ∷ [])) out
front-set bs out v h =
    ap (λ (r : List ℕ). set (bs ++ r) (length bs) v) (drop-cons out (length bs) 0 h)
    ∙ set-append_seam bs (get_or out (length bs) 0) _ v
    ∙ sym (append_snoc bs v _)
    ∙ sym (ap (λ (k : ℕ). (bs ++ (v ∷ [])) ++ drop k out) (length-append bs (v ∷ []) ∙ add-one (length bs)))

pub front-over : (bs out vs : List ℕ) → overwritten (front bs out) (length bs) vs ≡ front (bs ++ vs) out
front-over bs out vs =
    ap (λ (r : List ℕ). (r ++ vs) ++ drop (length bs + length vs) (front bs out)) (front-take bs out)
    ∙ ap (λ (r : List ℕ). (bs ++ vs) ++ r)
    (drop-append-add bs (drop (length bs) out) (length vs) ∙ drop-drop (length vs) (length bs) out)
    ∙ sym (ap (λ (k : ℕ). (bs ++ vs) ++ drop k out) (length-append bs vs))

-- what a callee that was lent `&mut d[at..]` left, in the whole
pub put-tail : (d ys : List ℕ) (at : ℕ) → at ≤ length d → put_mid at (length d - at) d ys ≡ take at d ++ ys
put-tail d ys at h =
    ap (λ (r : List ℕ). take at d ++ (ys ++ r)) (Post-is at (length d) d h ∙ drop-length d)
    ∙ ap (λ (r : List ℕ). take at d ++ r) (append-nil ys)

pub put-over : (d s : List ℕ) (at : ℕ) {ys : List ℕ} → at + length s ≤ length d
    → ys ≡ take (length s) s ++ drop (length s) (take (length d - at) (drop at d))
    → put_mid at (length d - at) d ys ≡ overwritten d at s
put-over d s at {ys} h e =
    put-tail d ys at (omega arith)
    ∙ ap (λ (r : List ℕ). take at d ++ r)
    (e ∙ ap₂ (λ (x y : List ℕ). x ++ drop (length s) y) (take-length s)
    (take_all (length d - at) (drop at d) (simp length-drop (omega arith)))
    ∙ ap (λ (r : List ℕ). s ++ r) (drop-drop (length s) at d))
    ∙ sym (append_assoc (take at d) s (drop (at + length s) d))

-- Two copies, one behind the other, write both lists to the front.
pub two-copies : (head p out : List ℕ) {o ys : List ℕ} → length head + length p ≤ length out
    → o ≡ take (length head) head ++ drop (length head) out
    → ys ≡ take (length p) p ++ drop (length p) (take (length o - length head) (drop (length head) o))
    → put_mid (length head) (length o - length head) o ys ≡ front (head ++ p) out
two-copies head p out {o} {ys} h e f =
    let eo : o ≡ front head out = e ∙ ap (λ (l : List ℕ). l ++ drop (length head) out) (take-length head) in
    let l : length o ≡ length out = ap length eo ∙ simp (length-append, length-drop) (omega arith) in
    put-over o p (length head) (omega arith) f
    ∙ ap (λ (l : List ℕ). overwritten l (length head) p) eo ∙ front-over head out p

-- the three steps of a telegram's writing
pub written : (a c i : ℕ) (p out : List ℕ) {o₁ o₂ o₃ : List ℕ} → i ≡ index_of (length p) → 4 + length p ≤ length out
    → o₁ ≡ front (header a i c) out → o₂ ≡ overwritten o₁ 3 p → o₃ ≡ set o₂ (3 + length p) (checksum_of (take (3 + length p) o₂))
    → o₃ ≡ front (telegram_of a c p) out
unfolding telegram_of unsealed
written a c i p out {o₁} {o₂} {o₃} ei h e₁ e₂ e₃ =
    let b : List ℕ = unsealed a c p in
    let e₄ : o₂ ≡ front b out =
    e₂ ∙ ap (λ (l : List ℕ). overwritten l 3 p) e₁ ∙ front-over (header a i c) out p
    ∙ ap (λ (k : ℕ). front (header a k c ++ p) out) ei in
    let n : 3 + length p ≡ length b = omega arith in
    e₃ ∙ ap₂ (λ (l : List ℕ) (k : ℕ). set l k (checksum_of (take k l))) e₄ n
    ∙ ap (λ (l : List ℕ). set (front b out) (length b) (checksum_of l)) (front-take b out)
    ∙ front-set b out (checksum_of b) (omega arith)
