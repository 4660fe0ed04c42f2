-- Bytes with zeros behind them, up to twelve. Assumes nothing.
use Rattle.std.proofs.Common.{◌≡◌, ℕ, ◌+◌, ◌-◌, true, List, ◌++◌, length, take, drop, replicate, sym, ap, ◌∙◌, arith, length-append, length-drop, drop-drop}
use Rattle.std.proofs.lemmas.List.{drop-replicate}
use Rattle.capture.specs.State.{State, padded, carried_in, zeros, is_left}
use Rattle.capture.proofs.States.{left, carried-count, zeros-all}

-- Bytes put over twelve zeros.
pub padded_over : (s : List ℕ) → (take 0 (replicate 12 0) ++ s) ++ drop (0 + length s) (replicate 12 0) ≡ padded s
padded_over s =
    let e : 0 + length s ≡ length s = omega arith in
    ap (λ (x : List ℕ). s ++ x) (ap (λ (k : ℕ). drop k (replicate 12 0)) e ∙ drop-replicate (length s) 12 0)

-- Zeros without the first few.
zeros-past : (u t : List ℕ) → zeros u ≡ true → drop (length t) u ≡ replicate (length u - length t) 0
zeros-past u t z = ap (λ (x : List ℕ). drop (length t) x) (zeros-all u z) ∙ drop-replicate (length t) (length u) 0

-- Bytes put behind those that a state carries: the zeros behind them stay.
pub padded-behind : (s : State) → length s.bytes ≡ 12 → is_left s ≡ true → (t : List ℕ)
    → (carried_in s ++ t) ++ drop (s.count + length t) s.bytes ≡ padded (carried_in s ++ t)
padded-behind s n e t =
    let u : List ℕ = drop s.count s.bytes in
    let m : length u - length t ≡ 12 - length (carried_in s ++ t) = simp (length-drop, length-append) (omega (arith, carried-count s n e)) in
    ap (λ (x : List ℕ). (carried_in s ++ t) ++ x)
    (sym (drop-drop (length t) s.count s.bytes)
    ∙ zeros-past u t (left s e).clear
    ∙ ap (λ (i : ℕ). replicate i 0) m)
