-- How code appends a word: by no store where it does not fit, else by a copy or by a store of its one byte.
-- Assumes nothing.
use Rattle.std.proofs.Common.{◌≡◌, ℕ, suc, ◌+◌, ◌-◌, ◌<◌, ◌≤◌, List, [], ◌∷◌, ◌++◌, map, length, get_or, take, drop, set, replicate, sym, ap, ◌∙◌, append_assoc, add-one, arith, drop_of_length-le, drop-cons, le-leb}
use lib.Seq.{sets-eq}
use borrow.Author.Tests.{lt-leb}
use borrow.Rule.Slice.PartMut.{put_mid, Post-is}
use Rattle.text.specs.Putting.{Text, text, appended, appended_all}

module _ (word out : List ℕ) (at : ℕ) where
  pub full : length out < at + length word → text at out ≡ appended word (text at out)
  unfolding appended
  full h = simp (lt-leb (at + length word) (length out) h)

  pub fitting : {bytes : List ℕ} → at + length word ≤ length out → bytes ≡ take at out ++ word ++ drop (at + length word) out
      → text (at + length word) bytes ≡ appended word (text at out)
  unfolding appended
  fitting h e = simp (le-leb (at + length word) (length out) h) (ap (text (at + length word)) e)

  -- what a copy of the word to `&mut out[at..at + n]` leaves
  pub copied : {ys : List ℕ} → at + length word ≤ length out → ys ≡ word
      → text (at + length word) (put_mid at (at + length word - at) out ys) ≡ appended word (text at out)
  copied {ys} h e =
      fitting h
      (ap (λ (r : List ℕ). take at out ++ (ys ++ r)) (Post-is at (at + length word) out (omega arith))
      ∙ ap (λ (w : List ℕ). take at out ++ (w ++ drop (at + length word) out)) e
      ∙ sym (append_assoc (take at out) word (drop (at + length word) out)))

-- what a store of one byte leaves
pub stored : (b : ℕ) (out : List ℕ) (at : ℕ) → at < length out → text (at + 1) (set out at b) ≡ appended (b ∷ []) (text at out)
stored b out at h = fitting (b ∷ []) out at (omega arith) (sets-eq (b ∷ []) out at (omega arith))

-- A turn of a loop over the bytes of s, and its end.
module _ (f : ℕ → List ℕ) (s : List ℕ) (i : ℕ) (u : Text) {t : Text} (all : appended_all (map f (drop i s)) u ≡ t) where
  pub next-byte : {v : Text} → i < length s → v ≡ appended (f (get_or s i 0)) u → appended_all (map f (drop (i + 1) s)) v ≡ t
  unfolding appended_all
  next-byte h e = rw (e, add-one) (rw (drop-cons s i 0) at all)

  pub all-bytes : length s ≤ i → u ≡ t
  unfolding appended_all
  all-bytes h = rw (drop_of_length-le s h) at all

-- A turn of a loop that appends a word n times, and its end.
module _ (word : List ℕ) (n i : ℕ) (u : Text) {t : Text} (all : appended_all (replicate (n - i) word) u ≡ t) where
  pub next-time : {v : Text} → i < n → v ≡ appended word u → appended_all (replicate (n - (i + 1)) word) v ≡ t
  unfolding appended_all
  next-time h e =
      let d : n - i ≡ suc (n - (i + 1)) = omega arith in
      rw e (rw d at all)

  pub all-times : n ≤ i → u ≡ t
  unfolding appended_all
  all-times h =
      let d : n - i ≡ 0 = omega arith in
      rw d at all
