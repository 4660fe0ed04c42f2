-- The lamps of a record, written place by place: what a loop that sweeps them makes of memory.
-- Assumes nothing.
use mathlib.Core.Path.{◌≡◌, refl, sym, ap, ◌∙◌}
use mathlib.Core.List.{List, [], ◌∷◌, ◌++◌, append_assoc, append-nil}
use Prim.Native.Nat.{ℕ, zero, suc, ◌+◌, ◌*◌, ◌-◌, ◌≤◌, ◌<◌}
use native.Mathlib.Omega.{arith}
use native.Mathlib.Numerals.{add-one}
use native.Mathlib.Nat.{sub-zero, sub_self}
use lib.ListN.{length, take, drop, set, length-append, length-drop, take-append-drop}
use lib.Seq.{length-take-le, take_at, drop_at, drop-drop, set_at}
use Rattle.telegram.specs.Telegram.{Bytes}
use Rattle.rules.specs.declared.Lamp.{Lamp}
use Rattle.slot.specs.Slot.{slot_size, slot_of}
use Rattle.chain.specs.Record.{header_size, slot_at, lamps_of, slots_of, lamps_in}
use Rattle.chain.specs.Places.{lamp_at, with_lamp, sweep}
use Rattle.chain.proofs.Slots.{bytes_drop, with-self}
use Rattle.chain.proofs.Places.{rest, rest_all, length-slots_of, slots_of-append, length-lamps_of, slots-lamps, length-lamps_in, lamps-at}

-- Memory with lamps from place 0 on: the header and the bytes behind them as they were.
unfoldable pub install : List ℕ → List Lamp → List ℕ
install mem xs = take header_size mem ++ (slots_of xs ++ drop (slot_at (length xs)) mem)

-- No lamps change nothing.
install-none : (mem : List ℕ) → install mem [] ≡ mem
unfolding install slots_of
install-none mem = take-append-drop header_size mem

-- Behind p installed lamps memory is as it was, and a lamp stored there is one more.
module _ (mem : List ℕ) (xs : List Lamp) (p : ℕ) (long : header_size ≤ length mem) (e : length xs ≡ p) where
  front_length : length (take header_size mem ++ slots_of xs) ≡ slot_at p
  front_length = simp (length-append, length-slots_of, length-take-le header_size mem long, e)

  install-drop : drop (slot_at p) (install mem xs) ≡ drop (slot_at p) mem
  unfolding install
  install-drop = rw (← append_assoc, e) (drop_at (take header_size mem ++ slots_of xs) _ _ front_length)

  install-ahead : lamp_at (install mem xs) p ≡ lamp_at mem p
  unfolding lamp_at
  install-ahead = rw install-drop

  install-step : (x : Lamp) → with_lamp (install mem xs) p x ≡ install mem (xs ++ (x ∷ []))
  unfolding with_lamp install slots_of
  install-step x =
      let n : slot_at (length (xs ++ (x ∷ []))) ≡ slot_at p + slot_size = simp (length-append, e) (omega arith) in
      let t : take (slot_at p) (install mem xs) ≡ take header_size mem ++ slots_of xs =
      rw (← append_assoc) (take_at (take header_size mem ++ slots_of xs) _ _ front_length) in
      let d : drop (slot_at p + slot_size) (install mem xs) ≡ drop (slot_at p + slot_size) mem =
      sym (drop-drop slot_size (slot_at p) (install mem xs)) ∙ rw (install-drop, drop-drop) in
      rw (t, d, n, slots_of-append) (regroup (take header_size mem) (slots_of xs) (slot_of x) (drop (slot_at p + slot_size) mem))
    where
      regroup : (h s t r : List ℕ) → (h ++ s) ++ (t ++ r) ≡ h ++ ((s ++ (t ++ [])) ++ r)
      regroup h s t r = simp (append_assoc, append-nil)

-- Each lamp by a rule that knows its place.
unfoldable pub each_from : (ℕ → Lamp → Lamp) → ℕ → List Lamp → List Lamp
each_from rule p [] = []
each_from rule p (x ∷ xs) = rule p x ∷ each_from rule (suc p) xs

-- They stay as many.
pub length-each : (rule : ℕ → Lamp → Lamp) (p : ℕ) (xs : List Lamp) → length (each_from rule p xs) ≡ length xs
unfolding each_from
length-each rule p [] = refl
length-each rule p (x ∷ xs) = ap suc (length-each rule (suc p) xs)

-- A sweep does that to the lamps: behind installed ones, and to all.
sweep-on : (rule : ℕ → Lamp → Lamp) (n p : ℕ) (mem : List ℕ) (xs : List Lamp) → header_size ≤ length mem → length xs ≡ p
    → sweep rule p n (install mem xs) ≡ install mem (xs ++ each_from rule p (lamps_of n (drop (slot_at p) mem)))
unfolding sweep each_from lamps_of lamp_at
sweep-on rule zero p mem xs h e = rw append-nil
sweep-on rule (suc n) p mem xs h e =
    let x = rule p (lamp_at mem p) in
    let d : slot_at p + slot_size ≡ slot_at (suc p) = omega arith in
    rw (install-ahead mem xs p h e, install-step mem xs p h e x, drop-drop, d)
    (sweep-on rule n (suc p) mem (xs ++ (x ∷ [])) h (simp (length-append, e, add-one)) ∙ rw append_assoc)

pub sweep-is : (rule : ℕ → Lamp → Lamp) (n : ℕ) (mem : List ℕ) → header_size ≤ length mem
    → sweep rule 0 n mem ≡ install mem (each_from rule 0 (lamps_in n mem))
unfolding lamps_in
sweep-is rule n mem h = ap (sweep rule 0 n) (sym (install-none mem)) ∙ sweep-on rule n 0 mem [] h refl

-- A sweep from place n up to n does nothing; one from i goes on with place i.
sweep-none : (rule : ℕ → Lamp → Lamp) (n : ℕ) (mem : List ℕ) → sweep rule n (n - n) mem ≡ mem
unfolding sweep
sweep-none rule n mem = rw sub_self

sweep-more : (rule : ℕ → Lamp → Lamp) (i n : ℕ) (mem : List ℕ) → i < n
    → sweep rule i (n - i) mem ≡ sweep rule (i + 1) (n - (i + 1)) (with_lamp mem i (rule i (lamp_at mem i)))
unfolding sweep
sweep-more rule i n mem h =
    let e : n - i ≡ suc (n - (i + 1)) = omega arith in
    rw (e, add-one)

-- A loop that sweeps the lamps: at place i the rest of the sweep makes of memory what the whole makes of it at the start.
abbrev pub Swept : (ℕ → Lamp → Lamp) → ℕ → List ℕ → ℕ → List ℕ → Type 0
Swept rule n mem₀ i mem = (i ≤ n) × (sweep rule i (n - i) mem ≡ sweep rule 0 n mem₀) × (length mem ≡ length mem₀)

module _ (rule : ℕ → Lamp → Lamp) (n : ℕ) (mem₀ : List ℕ) where
  pub swept_none : Swept rule n mem₀ 0 mem₀
  swept_none = (omega arith, ap (λ (k : ℕ). sweep rule 0 k mem₀) (sub-zero n), refl)

  pub swept-more : (i : ℕ) (mem : List ℕ) {mem' : List ℕ} → Swept rule n mem₀ i mem → i < n
      → mem' ≡ with_lamp mem i (rule i (lamp_at mem i)) → length mem' ≡ length mem → Swept rule n mem₀ (i + 1) mem'
  swept-more i mem s h e k =
      (omega arith, ap (sweep rule (i + 1) (n - (i + 1))) e ∙ sym (sweep-more rule i n mem h) ∙ s.1, k ∙ s.2)

  pub swept_all : (i : ℕ) (mem : List ℕ) → Swept rule n mem₀ i mem → n ≡ i → mem ≡ sweep rule 0 n mem₀
  swept_all i mem s e = sym (sweep-none rule i mem) ∙ ap (λ (k : ℕ). sweep rule i (k - i) mem) (sym e) ∙ s.1

-- Lamps behind the installed ones, as memory has them, change nothing.
install-part : (mem : List ℕ) (xs : List Lamp) (i n : ℕ) → Bytes mem → slot_at n ≤ length mem → i ≤ n → length xs ≡ i
    → install mem (xs ++ rest i n mem) ≡ install mem xs
unfolding install rest
install-part mem xs i n b h le e =
    let s = drop (slot_at i) mem in
    let k : slot_size * (n - i) ≤ length s = simp length-drop (omega arith) in
    let c : length (xs ++ lamps_of (n - i) s) ≡ n = simp (length-append, e, length-lamps_of) (omega arith) in
    let d : slot_at i + slot_size * (n - i) ≡ slot_at n = omega arith in
    rw (
      c,
      slots_of-append,
      slots-lamps (n - i) s (bytes_drop (slot_at i) mem b) k,
      e,
      append_assoc,
      ← d,
      ← (drop-drop (slot_size * (n - i)) (slot_at i) mem),
      take-append-drop,
    )

-- So the lamps of memory, installed, are memory ..
pub install-self : (mem : List ℕ) (n : ℕ) → Bytes mem → slot_at n ≤ length mem → install mem (lamps_in n mem) ≡ mem
install-self mem n b h = rw (← (rest_all n mem)) (install-part mem [] 0 n b h (omega arith) refl ∙ install-none mem)

-- .. and one lamp stored is that one of them replaced.
pub install-set : (mem : List ℕ) (p n : ℕ) (x : Lamp) → Bytes mem → slot_at n ≤ length mem → p < n
    → with_lamp mem p x ≡ install mem (set (lamps_in n mem) p x)
install-set mem p n x b h k =
    let e = length-lamps_in p mem in
    ap (λ (m : List ℕ). with_lamp m p x) (sym (install-self mem p b (omega arith)))
    ∙ install-step mem (lamps_in p mem) p (omega arith) e x
    ∙ sym (install-part mem (lamps_in p mem ++ (x ∷ [])) (p + 1) n b h (omega arith) (simp (length-append, e)))
    ∙ ap (install mem) (append_assoc (lamps_in p mem) (x ∷ []) (rest (p + 1) n mem)
    ∙ sym (rw (lamps-at p n mem k) (set_at (lamps_in p mem) (lamp_at mem p) (rest (p + 1) n mem) x p e)))

-- A sweep that leaves each lamp leaves memory.
pub sweep-same : (p n : ℕ) (mem : List ℕ) → Bytes mem → slot_at (p + n) ≤ length mem → sweep (λ (q : ℕ) (l : Lamp). l) p n mem ≡ mem
unfolding sweep
sweep-same p zero mem b h = refl
sweep-same p (suc n) mem b h = rw (with-self mem p b (omega arith)) (sweep-same (suc p) n mem b (omega arith))

-- Rules that do the same at each place sweep alike.
pub sweep-alike : (rule same : ℕ → Lamp → Lamp) → ((p : ℕ) (l : Lamp) → rule p l ≡ same p l) → (p n : ℕ) (mem : List ℕ)
    → sweep rule p n mem ≡ sweep same p n mem
unfolding sweep
sweep-alike rule same e p zero mem = refl
sweep-alike rule same e p (suc n) mem =
    rw (e p (lamp_at mem p)) (sweep-alike rule same e (suc p) n (with_lamp mem p (same p (lamp_at mem p))))
