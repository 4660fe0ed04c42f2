-- A state that memory holds is kept there without a change; what such a state has, and that it is taken up again after it was kept.
-- Assumes nothing.
use Rattle.std.proofs.Common.{◌≡◌, ℕ, zero, suc, ◌+◌, ◌<◌, ◌≤◌, List, [], ◌∷◌, ◌++◌, length, get_or, take, drop, replicate, sym, refl, ap, ◌∙◌, subst, ap₂, inl, inr, ⊎_elim, arith, length-append, length-drop, take-append-drop, length-take-le, drop-cons, drop-drop, take_at}
use Rattle.telegram.specs.Numbers.{done, front}
use Rattle.telegram.specs.Telegram.{Bytes}
use Rattle.telegram.proofs.Outcomes.{done-one, went_on}
use Rattle.frame.proofs.Fronts.{bytes-zeros, bytes-none, bytes-cons, bytes-append, bytes_take, bytes_drop}
use Rattle.capture.specs.State.{Standing, going, ended, stopped_for, checksums_in, State}
use Rattle.capture.specs.Uncut.{Taken, Position}
use Rattle.capture.proofs.States.{left, none-stopped, stops_as, stops-low}
use Rattle.reader.specs.Layout.{stands_in, count_in, position_in, carried_bytes, state_in, standing_byte, value_byte, position_bytes, state_head, state_bytes, holding}
use Rattle.reader.specs.Kept.{StateComesBack, HeldStays, TakenIn}
use Rattle.reader.proofs.States.{standing_state, state-by, state-long}
use Rattle.reader.proofs.Positions.{position-each, number-position, number-back}
use Rattle.reader.proofs.Back.{Sums, Said, said, shown, parts, state-comes-back}

-- The first bytes of memory, one by one.
abbrev listed : List ℕ → ℕ → ℕ → List ℕ
listed mem k zero = []
listed mem k (suc n) = get_or mem k 0 ∷ listed mem (suc k) n

all_listed : (mem : List ℕ) (k n : ℕ) → k + n ≤ length mem → listed mem k n ++ drop (k + n) mem ≡ drop k mem
all_listed mem k zero h = let e : k + 0 ≡ k = omega arith in ap (λ (i : ℕ). drop i mem) e
all_listed mem k (suc n) h =
    let e : k + suc n ≡ suc k + n = omega arith in
    ap (λ (l : List ℕ). get_or mem k 0 ∷ l)
    (ap (λ (i : ℕ). listed mem (suc k) n ++ drop i mem) e ∙ all_listed mem (suc k) n (omega arith))
    ∙ sym (drop-cons mem k 0 (omega arith))

-- Byte 1 is a byte, so the count fits in one.
count-low : (k : Standing) (v : ℕ) → v < 256 → count_in k v ≤ 255
count-low going v h = omega (arith, h)
count-low ended v h = omega (arith, h)
count-low (stopped_for d) v h = omega arith

-- What a state has that memory holds.
module _ (s : State) (mem : List ℕ) (e : state_in mem ≡ done s) where
  held-long : 21 ≤ length mem
  held-long = state-long mem s e

  held-as : (k : Standing) × (stands_in mem ≡ done k) × (standing_state mem k ≡ s)
  held-as =
      let w = went_on (stands_in mem) (λ (k : Standing). done (standing_state mem k)) (state-by mem held-long _ refl ∙ e) in
      (w.0, w.1.0, done-one w.1.1)

  abbrev stood : Said (get_or mem 0 0) (get_or mem 1 0) (get_or mem 10 0) (get_or mem 11 0) held-as.0
  stood = said (get_or mem 0 0) (get_or mem 1 0) (get_or mem 10 0) (get_or mem 11 0) held-as.0 held-as.1

  -- It was written as it stands there.
  head_as : Bytes mem → state_head (standing_state mem held-as.0) ≡ listed mem 0 10
  head_as y =
      λ i. stood.phase i ∷ stood.value i ∷ number-back _ _ _ _ _ _ _ _ (y 2) (y 3) (y 4) (y 5) (y 6) (y 7) (y 8) (y 9) i

  abbrev carried : List ℕ
  carried = take 11 (drop 10 mem)

  carried-long : length carried ≡ 11
  carried-long = length-take-le 11 (drop 10 mem) (simp length-drop (omega (arith, held-long)))

  -- Bytes 10 to 20 are those carried, or the two checksums and those behind them.
  shown-as : (k : Standing) → Sums (get_or mem 10 0) (get_or mem 11 0) k → front (checksums_in k) (carried_bytes k mem) ≡ carried ++ 0 ∷ []
  shown-as k (inl e) = ap (λ (l : List ℕ). front l (front (replicate (length l) 0) (carried ++ 0 ∷ []))) e
  shown-as k (inr e) =
      let x = get_or mem 10 0 in
      let y = get_or mem 11 0 in
      let d : drop 10 mem ≡ x ∷ y ∷ drop 12 mem =
      drop-cons mem 10 0 (omega (arith, held-long)) ∙ ap (λ (l : List ℕ). x ∷ l) (drop-cons mem 11 0 (omega (arith, held-long))) in
      ap (λ (l : List ℕ). front l (front (replicate (length l) 0) (carried ++ 0 ∷ []))) e
      ∙ subst (λ (l : List ℕ). x ∷ y ∷ drop 2 (take 11 l ++ 0 ∷ []) ≡ take 11 l ++ 0 ∷ []) (sym d) refl

  carried-twelve : (k : Standing) → Sums (get_or mem 10 0) (get_or mem 11 0) k → length (carried_bytes k mem) ≡ 12
  carried-twelve k (inl e) =
      ap (λ (l : List ℕ). length (front (replicate (length l) 0) (carried ++ 0 ∷ []))) e ∙ simp length-append (omega (arith, carried-long))
  carried-twelve k (inr e) =
      ap (λ (l : List ℕ). length (front (replicate (length l) 0) (carried ++ 0 ∷ []))) e
      ∙ simp (length-drop, length-append) (omega (arith, carried-long))

  carried-bytes : Bytes mem → Bytes (carried_bytes held-as.0 mem)
  carried-bytes y =
      let z : List ℕ = replicate (length (checksums_in held-as.0)) 0 in
      let b = bytes-append carried (0 ∷ []) (bytes_take 11 (drop 10 mem) (bytes_drop 10 mem y)) (bytes-cons 0 [] (omega arith) bytes-none) in
      bytes-append z (drop (length z) (carried ++ 0 ∷ [])) (bytes-zeros (length (checksums_in held-as.0))) (bytes_drop (length z) (carried ++ 0 ∷ []) b)

  held-sums : Bytes mem → Bytes (checksums_in s.standing)
  held-sums y =
      subst (λ (z : State). Bytes (checksums_in z.standing)) held-as.2
      (⊎_elim (λ e. subst Bytes (sym e) bytes-none)
      (λ e. subst Bytes (sym e) (bytes-cons (get_or mem 10 0) (get_or mem 11 0 ∷ []) (y 10) (bytes-cons (get_or mem 11 0) [] (y 11) bytes-none)))
      stood.sums)

  pub held-few : Bytes mem → s.count ≤ 255
  held-few y = subst (λ (z : State). z.count ≤ 255) held-as.2 (count-low held-as.0 (get_or mem 1 0) (y 1))

  shown-long : length (shown (standing_state mem held-as.0)) ≡ 12
  shown-long = ap length (shown-as held-as.0 stood.sums) ∙ simp length-append (omega (arith, carried-long))

  rest-as : take 11 (shown (standing_state mem held-as.0)) ++ drop 21 mem ≡ drop 10 mem
  rest-as =
      ap₂ (λ (a b : List ℕ). take 11 a ++ b) (shown-as held-as.0 stood.sums) (sym (drop-drop 11 10 mem))
      ∙ ap (λ (l : List ℕ). l ++ drop 11 (drop 10 mem)) (take_at carried (0 ∷ []) 11 carried-long)
      ∙ take-append-drop 11 (drop 10 mem)

  stays : Bytes mem → holding s mem ≡ mem
  stays y =
      ap (λ (z : State). holding z mem) (sym held-as.2)
      ∙ parts (standing_state mem held-as.0) mem (omega (arith, shown-long))
      ∙ ap₂ (λ (a b : List ℕ). a ++ b) (head_as y) rest-as ∙ all_listed mem 0 10 (omega (arith, held-long))

  -- An open one: byte 0 is 0, and the position stands there.
  pub held-open : s.standing ≡ going → (get_or mem 0 0 ≡ 0) × (position_in mem ≡ s.position)
  held-open o =
      let k : held-as.0 ≡ going = ap (λ (z : State). z.standing) held-as.2 ∙ o in
      (sym stood.phase ∙ ap standing_byte k, ap (λ (z : State). z.position) held-as.2)

pub held_stays : HeldStays
unfolding HeldStays
held_stays s mem y e = stays s mem e y

-- Memory that holds a state which calls take up.
module _ (s : State) (mem : List ℕ) (k : TakenIn s mem) where
  pub held-taken : Taken s
  held-taken =
      let e = (held-as s mem k.holds).2 in
      record {
        long = ap (λ (z : State). length z.bytes) (sym e) ∙ carried-twelve s mem k.holds (held-as s mem k.holds).0 (stood s mem k.holds).sums;
        each = subst (λ (z : State). Bytes z.bytes) e (carried-bytes s mem k.holds k.each);
        sums = held-sums s mem k.holds k.each;
        leaves = k.leaves;
      }

  pub held-position : Position s.position
  held-position =
      let y = k.each in
      subst (λ (z : State). Position z.position) (held-as s mem k.holds).2
      (number-position _ _ _ _ _ _ _ _ (y 2) (y 3) (y 4) (y 5) (y 6) (y 7) (y 8) (y 9))

-- Such a state is kept so that calls take it up again.
standing-low : (s : State) → Taken s → (k : Standing) → s.standing ≡ k → (standing_byte k < 256) × (value_byte k s.count < 256)
standing-low s t going o = (omega arith, omega (arith, (left s t.leaves).few))
standing-low s t ended o = (omega arith, omega (arith, (left s t.leaves).few))
standing-low s t (stopped_for d) o = (omega arith, omega (arith, (stops-low d (stops_as d (none-stopped s t.leaves d o).1)).1))

pub kept-taken : (s : State) (mem : List ℕ) → Taken s → Position s.position → 21 ≤ length mem → Bytes mem → TakenIn s (holding s mem)
unfolding StateComesBack
kept-taken s mem t p h y =
    let k = s.standing in
    let w = standing-low s t k refl in
    let v = value_byte k s.count in
    let z = position_bytes s.position in
    let n = length (state_bytes s) in
    record {
      each =
          bytes-append (state_bytes s) (drop n mem)
          (bytes-append (state_head s) (take 11 (shown s))
          (bytes-cons (standing_byte k) (v ∷ z) w.0 (bytes-cons v z w.1 (position-each s.position)))
          (bytes_take 11 (shown s) (bytes-append (checksums_in k) _ t.sums (bytes_drop (length (checksums_in k)) s.bytes t.each))))
          (bytes_drop n mem y);
      holds = (state-comes-back s mem t p h).state;
      leaves = t.leaves;
    }
