-- What a store makes of memory, slot by slot.
-- Assumes nothing.
use mathlib.Core.Path.{◌≡◌, sym, ap, ◌∙◌}
use mathlib.Core.Bool.{Bool, true, false, cond}
use mathlib.Core.List.{List, [], ◌++◌, append_assoc, append-nil}
use Prim.Native.Nat.{ℕ, ◌+◌, ◌≤◌}
use native.Mathlib.Omega.{arith}
use lib.ListN.{length, take, drop, length-drop, take-append-drop}
use lib.Seq.{length-take-le, drop-drop, get_or-drop, take-length, drop-length}
use Rattle.telegram.specs.Telegram.{Bytes}
use Rattle.telegram.proofs.Front.{overwritten}
use Rattle.rules.specs.declared.Lamp.{Lamp}
use Rattle.slot.specs.Slot.{slot_size, lamp_of, slot_of}
use Rattle.slot.proofs.Slots.{slot-length, slot-lamp, lamp-front}
use Rattle.chain.specs.Record.{slot_at}
use Rattle.chain.specs.Places.{lamp_at, with_lamp}

-- Behind n bytes are bytes.
pub bytes_drop : (n : ℕ) (s : List ℕ) → Bytes s → Bytes (drop n s)
bytes_drop n s b i = rw get_or-drop (b (n + i))

-- A lamp stored where it was there before changes nothing.
pub with-self : (mem : List ℕ) (p : ℕ) → Bytes mem → slot_at p + slot_size ≤ length mem → with_lamp mem p (lamp_at mem p) ≡ mem
unfolding with_lamp lamp_at
with-self mem p b h =
    rw (
      slot-lamp (drop (slot_at p) mem) (bytes_drop (slot_at p) mem b) (simp length-drop (omega arith)),
      ← (drop-drop slot_size (slot_at p) mem),
      take-append-drop slot_size (drop (slot_at p) mem),
    )
    (take-append-drop (slot_at p) mem)

-- A whole slot written stores its lamp.
pub put-lamp : (mem : List ℕ) (p : ℕ) (l : Lamp) {bs : List ℕ} → bs ≡ slot_of l → overwritten mem (slot_at p) bs ≡ with_lamp mem p l
unfolding with_lamp
put-lamp mem p l e = rw (e, slot-length, append_assoc)

-- A part of memory as long as an array, copied into it, is what the array then holds.
pub part-copied : (mem z : List ℕ) (at : ℕ) {k : ℕ} → k ≡ length z → at + length z ≤ length mem
    → let s = take k (drop at mem) in take (length s) s ++ drop (length s) z ≡ take (length z) (drop at mem)
part-copied mem z at {k} e h =
    let s = take k (drop at mem) in
    let n : length s ≡ length z =
    ap (λ (i : ℕ). length (take i (drop at mem))) e ∙ length-take-le (length z) (drop at mem) (simp length-drop (omega arith)) in
    let d : drop (length s) z ≡ [] = ap (λ (i : ℕ). drop i z) n ∙ drop-length z in
    rw (take-length s, d, append-nil) (ap (λ (i : ℕ). take i (drop at mem)) e)

-- The lamp at a place, from the bytes of its slot.
pub lamp_in_slot : (mem : List ℕ) (p : ℕ) {bs : List ℕ} → slot_at p + slot_size ≤ length mem → bs ≡ take slot_size (drop (slot_at p) mem)
    → lamp_of bs ≡ lamp_at mem p
unfolding lamp_at
lamp_in_slot mem p h e = ap lamp_of e ∙ lamp-front (drop (slot_at p) mem) (simp length-drop (omega arith))

-- A rule for the lamps that a test picks: done where the test is true, and else the lamp stays.
module _ (test : Lamp → Bool) (rule : Lamp → Lamp) {x l : Lamp} {b : Bool} (same : x ≡ l) (tested : b ≡ test x) where
  pub picked : b ≡ true → rule l ≡ cond (test l) (rule l) l
  picked e = ap (λ (t : Bool). cond t (rule l) l) (sym e ∙ tested ∙ ap test same)

  pub passed-by : b ≡ false → l ≡ cond (test l) (rule l) l
  passed-by e = ap (λ (t : Bool). cond t (rule l) l) (sym e ∙ tested ∙ ap test same)
