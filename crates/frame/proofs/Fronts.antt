-- Parts of bytes are bytes. What the bytes of a telegram show that the telegram reader accepts, and what the reader refuses of bytes that
-- show a whole telegram.
-- Assumes nothing.
use mathlib.Core.Path.{◌≡◌, sym, ap, ◌∙◌}
use mathlib.Core.Logic.{◌≢◌}
use mathlib.Core.List.{List, [], ◌∷◌, ◌++◌}
use Prim.Native.Nat.{ℕ, zero, suc, ◌+◌, ◌<◌}
use native.Mathlib.Omega.{arith}
use lib.ListN.{length, take, drop, replicate}
use lib.Seq.{get_or-drop, length-take-le}
use Rattle.telegram.specs.Numbers.{Reason, refused_for, done, wrong_checksum}
use Rattle.telegram.specs.Telegram.{index_in, size_of, telegram_in, framing, reading, computed_in, received_in, Bytes}
use Rattle.telegram.specs.declared.Telegram.{Telegram}
use Rattle.checksum.proofs.Laws.{checksum-lt}
use Rattle.telegram.proofs.Reading.{framed, frame-done, read-differs, accepted}
use Rattle.frame.specs.Frame.{incomplete, whole, cutting}
use Rattle.frame.proofs.Cuts.{cut-none, cut-whole, complete, front-whole, whole-stays}

pub bytes-none : Bytes []
bytes-none k = omega arith

pub bytes-cons : (b : ℕ) (l : List ℕ) → b < 256 → Bytes l → Bytes (b ∷ l)
bytes-cons b l h y zero = h
bytes-cons b l h y (suc k) = y k

pub bytes-append : (a b : List ℕ) → Bytes a → Bytes b → Bytes (a ++ b)
bytes-append [] b x y = y
bytes-append (h ∷ a) b x y = bytes-cons h (a ++ b) (x 0) (bytes-append a b (λ k. x (suc k)) y)

pub bytes_take : (n : ℕ) (l : List ℕ) → Bytes l → Bytes (take n l)
bytes_take zero l y k = omega arith
bytes_take (suc n) [] y k = omega arith
bytes_take (suc n) (b ∷ l) y zero = y 0
bytes_take (suc n) (b ∷ l) y (suc k) = bytes_take n l (λ j. y (suc j)) k

pub bytes_drop : (n : ℕ) (l : List ℕ) → Bytes l → Bytes (drop n l)
bytes_drop n l y k = rw get_or-drop (y (n + k))

pub bytes-zeros : (n : ℕ) → Bytes (replicate n 0)
bytes-zeros zero = bytes-none
bytes-zeros (suc n) = bytes-cons 0 (replicate n 0) (omega arith) (bytes-zeros n)

-- No bytes: more are needed.
pub none-incomplete : cutting [] ≡ incomplete
none-incomplete = sym (cut-none [] (omega arith))

-- A telegram that the reader accepts shows itself, whatever follows it.
pub accepted-whole : (t l : List ℕ) (x : Telegram) → reading t ≡ done x → cutting (t ++ l) ≡ whole (length t)
accepted-whole t l x e =
    let f = framed t x (accepted t x e).0 in
    let n : 4 + size_of (index_in t) ≡ length t = ap (λ (u : Telegram). 4 + u.size) f.fields ∙ sym f.count in
    let w : cutting t ≡ whole (length t) =
    sym (cut-whole t (omega (arith, f.enough)) f.preamble (omega (arith, f.enough)) f.index (omega arith)) ∙ ap whole n in
    whole-stays t l (length t) w

-- Of a whole telegram the reader refuses only the checksum: two that differ, which are bytes where the telegram is.
pub record Mismatch (s : List ℕ) (d : Reason) : Type 0 where
  pub computed : ℕ
  pub received : ℕ
  pub differ : computed ≢ received
  pub bytes : Bytes s → (computed < 256) × (received < 256)
  pub reason : d ≡ wrong_checksum computed received

pub whole-refused : (s : List ℕ) (k : ℕ) (d : Reason) → cutting s ≡ whole k → reading (take k s) ≡ refused_for d → Mismatch s d
whole-refused s k d e r =
    let t = take k s in
    let q = complete t k (front-whole s k e) in
    let m : length t ≡ k = length-take-le k s (complete s k e).count in
    let f : framing t ≡ done (telegram_in t) =
    sym (frame-done t (omega (arith, q.size)) q.preamble q.index (omega (arith, q.size))) in
    let n = (telegram_in t).size in
    let p = read-differs t (telegram_in t) f r in
    record {
      computed = computed_in t n;
      received = received_in t n;
      differ = p.0;
      bytes = λ y. (checksum-lt (take (3 + n) t), bytes_take k s y (3 + n));
      reason = p.1;
    }
