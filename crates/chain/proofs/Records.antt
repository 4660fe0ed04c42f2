-- The chain that memory holds: there and back, and what a store or a sweep makes of it.
-- Assumes nothing.
use mathlib.Core.Path.{◌≡◌, refl, sym, ap, ◌∙◌}
use mathlib.Core.Bool.{true}
use mathlib.Core.List.{List, [], ◌∷◌, ◌++◌}
use Prim.Native.Nat.{ℕ, suc, ◌*◌, ◌≤◌, ◌<◌}
use native.Mathlib.Omega.{arith}
use lib.ListN.{length, get_or, drop, set, replicate, length-append, length-drop, length-set, length-replicate}
use lib.Seq.{drop_at, drop-drop, drop-append-add}
use Rattle.telegram.specs.Telegram.{Bytes}
use Rattle.table.proofs.Both.{and_left, and_right}
use Rattle.rules.specs.declared.Defaults.{Defaults}
use Rattle.rules.specs.declared.Lamp.{Lamp}
use Rattle.rules.specs.Lamp.{blank}
use Rattle.telegram.specs.Numbers.{done}
use Rattle.rules.specs.Chain.{Chain, with_lamps, count_right, chain_right, fresh}
use Rattle.slot.specs.Slot.{slot_size}
use Rattle.chain.specs.Record.{header_size, record_length, slots_of, header_of, count_of, defaults_of, lamps_in, decode, hold, chain_in}
use Rattle.chain.specs.Places.{lamp_at, with_lamp, sweep}
use Rattle.slot.proofs.Slots.{word_in, high-back, low-back, take-firsts}
use Rattle.chain.proofs.Places.{length-slots_of, lamps-slots, length-lamps_in, getD-lamps_in}
use Rattle.chain.proofs.Sweeps.{install, each_from, length-each, sweep-is, install-self, install-set}
use Rattle.chain.proofs.Validity.{chain-done}

-- Memory that holds its own chain with other lamps is memory with those installed.
pub hold-install : (mem : List ℕ) (xs : List Lamp) → Bytes mem → header_size ≤ length mem → length xs ≡ count_of mem
    → hold mem (with_lamps (decode mem) xs) ≡ install mem xs
unfolding hold header_of decode defaults_of count_of install
hold-install mem xs b h e = rw (e, take-firsts header_size mem h) (simp (high-back, low-back, b))

module _ (mem : List ℕ) (b : Bytes mem) (h : record_length (count_of mem) ≤ length mem) where
  -- Memory that holds its own chain is itself.
  pub hold-decode : hold mem (decode mem) ≡ mem
  unfolding decode
  hold-decode =
      hold-install mem (lamps_in (count_of mem) mem) b (omega arith) (length-lamps_in (count_of mem) mem)
      ∙ install-self mem (count_of mem) b h

  -- One lamp stored, as the chain that memory then holds.
  pub hold-set : (p : ℕ) (x : Lamp) → p < count_of mem
      → with_lamp mem p x ≡ hold mem (with_lamps (decode mem) (set (lamps_in (count_of mem) mem) p x))
  hold-set p x k =
      install-set mem p (count_of mem) x b h k
      ∙ sym (hold-install mem (set (lamps_in (count_of mem) mem) p x) b (omega arith) (simp (length-set, length-lamps_in)))

  -- A sweep of all places, likewise.
  pub hold-each : (rule : ℕ → Lamp → Lamp)
      → sweep rule 0 (count_of mem) mem ≡ hold mem (with_lamps (decode mem) (each_from rule 0 (lamps_in (count_of mem) mem)))
  hold-each rule =
      sweep-is rule (count_of mem) mem (omega arith)
      ∙ sym (hold-install mem (each_from rule 0 (lamps_in (count_of mem) mem)) b (omega arith) (simp (length-each, length-lamps_in)))

-- The record of a chain is as long as its count says.
record-length : (c : Chain) → length (header_of (length c.lamps) c.defaults ++ slots_of c.lamps) ≡ record_length (length c.lamps)
unfolding header_of
record-length c = simp length-slots_of (omega arith)

-- Memory that holds a chain: its count, its lamps, its chain and its length.
module _ (mem : List ℕ) (c : Chain) where
  count-hold : count_of (hold mem c) ≡ length c.lamps
  unfolding hold header_of count_of
  count-hold = rw word_in

  lamps-hold : lamps_in (length c.lamps) (hold mem c) ≡ c.lamps
  unfolding hold header_of lamps_in
  lamps-hold = rw lamps-slots

  pub decode-hold : decode (hold mem c) ≡ c
  unfolding decode defaults_of hold header_of
  decode-hold = rw (count-hold, lamps-hold)

  pub hold-length : record_length (length c.lamps) ≤ length mem → length (hold mem c) ≡ length mem
  unfolding hold header_of
  hold-length h = simp (length-append, length-slots_of, length-drop) (omega arith)

-- A chain held over another that has as many lamps.
pub hold-hold : (mem : List ℕ) (c c' : Chain) → length c.lamps ≡ length c'.lamps → hold (hold mem c) c' ≡ hold mem c'
unfolding hold
hold-hold mem c c' e =
    let r = header_of (length c.lamps) c.defaults ++ slots_of c.lamps in
    rw (← e, drop_at r (drop (record_length (length c.lamps)) mem) _ (record-length c))

-- Memory that holds a valid chain gives it back.
pub hold-chain : (mem : List ℕ) (c : Chain) → record_length (length c.lamps) ≤ length mem → chain_right c ≡ true
    → chain_in (hold mem c) ≡ done c
unfolding chain_right
hold-chain mem c h r =
    let l : record_length (length c.lamps) ≤ length (hold mem c) = rw (hold-length mem c h) h in
    chain-done (hold mem c) (rw (count-hold mem c) (and_left _ _ r)) (rw (count-hold mem c) l)
    (rw (count-hold mem c, lamps-hold mem c) (and_right (count_right (length c.lamps)) _ r))
    ∙ ap done (decode-hold mem c)

-- The same lamp at every place.
each_same : (x : Lamp) (p : ℕ) (xs : List Lamp) → each_from (λ (q : ℕ) (l : Lamp). x) p xs ≡ replicate (length xs) x
unfolding each_from
each_same x p [] = refl
each_same x p (y ∷ xs) = ap (λ (t : List Lamp). x ∷ t) (each_same x (suc p) xs)

-- A chain made: the header written, then a fresh lamp stored at each place.
pub hold-fresh : (mem : List ℕ) (n : ℕ) (d : Defaults)
    → sweep (λ (p : ℕ) (l : Lamp). blank d 0) 0 n (header_of n d ++ drop header_size mem) ≡ hold mem (fresh n d)
unfolding install header_of hold fresh
hold-fresh mem n d =
    let m = header_of n d ++ drop header_size mem in
    sweep-is (λ (p : ℕ) (l : Lamp). blank d 0) n m (omega arith)
    ∙ rw (each_same (blank d 0) 0 (lamps_in n m), length-lamps_in n m, length-replicate)
    (ap (λ (t : List ℕ). header_of n d ++ (slots_of (replicate n (blank d 0)) ++ t))
    (drop-append-add (header_of n d) (drop header_size mem) (slot_size * n) ∙ drop-drop (slot_size * n) header_size mem))

-- The lamp at a place of memory that holds a chain.
pub hold_at : (mem : List ℕ) (c : Chain) (p : ℕ) (y : Lamp) → p < length c.lamps → lamp_at (hold mem c) p ≡ get_or c.lamps p y
hold_at mem c p y h =
    sym (getD-lamps_in p (length c.lamps) (hold mem c) y h) ∙ ap (λ (xs : List Lamp). get_or xs p y) (lamps-hold mem c)
