-- Demand 3, second half: two neighbours of a list for different addresses trade places. It holds of every chain.
-- Assumes nothing.
use Prim.Native.Nat.{ℕ, suc}
use native.Mathlib.Omega.{arith}
use native.Mathlib.Decide.{ℕ_discrete}
use mathlib.Core.Path.{◌≡◌, refl, sym, ap, ◌∙◌}
use mathlib.Core.Logic.{◌≢◌}
use mathlib.Core.Bool.{Bool, true, false, cond}
use mathlib.Core.List.{List, [], ◌∷◌}
use Rattle.telegram.specs.Numbers.{Outcome, refused}
use Rattle.telegram.specs.declared.Address.{Address}
use Rattle.command.specs.Commands.{Message, dissecting}
use Rattle.command.proofs.RoundTrip.{one-lamp}
use Rattle.rules.specs.declared.Defaults.{Defaults}
use Rattle.rules.specs.declared.Lamp.{Lamp}
use Rattle.rules.specs.Lamp.{no_address, acted}
use Rattle.rules.specs.Chain.{with_lamps, Walked, walk, room_small, delivering, deliver}
use Rattle.rules.specs.Lists.{Delivery, run, ForOne, NeighboursTrade}
use Rattle.rules.proofs.Walks.{acted-address, past, seeking, hit, miss}
use Rattle.rules.proofs.Deliveries.{plain-walks}

-- The walk of k for b after the walk of m for a: the outcome is that of the walk for b alone, the lamps are those of the other order.
module _ (d : Defaults) (m k : Message) (a b : ℕ) (apart : a ≢ b) (real-a : a ≢ no_address.0) (real-b : b ≢ no_address.0) where
  abbrev After : ℕ → List Lamp → Type 0
  After p xs =
      walk (seeking d k b) p (walk (seeking d m a) p xs).lamps
      ≡ record { lamps = (walk (seeking d m a) p (walk (seeking d k b) p xs).lamps).lamps; outcome = (walk (seeking d k b) p xs).outcome }

  -- By both addresses at each lamp; no lamp has the two.
  walks : (p : ℕ) (xs : List Lamp) → After p xs
  walks p [] = refl
  walks p (x ∷ xs) = go (ℕ_discrete x.address.0 a) (ℕ_discrete x.address.0 b) (walks (suc p) xs)
    where
      -- A lamp that has not an address has it not after a command.
      still : (n : Message) (c : ℕ) → c ≢ no_address.0 → x.address.0 ≢ c → (acted d n x).address.0 ≢ c
      still n c real h = acted-address (λ (s : Address). s.0 ≢ c) d n x (λ e. real (sym e)) h

      go : Dec (x.address.0 ≡ a) → Dec (x.address.0 ≡ b) → After (suc p) xs → After p (x ∷ xs)
      go (yes e) (yes f) ih = absurd (apart (sym e ∙ f))
      go (yes e) (no f) ih =
          rw (
            hit d m a p x xs e,
            miss d k b p (acted d m x) xs (still m b real-b f),
            miss d k b p x xs f,
            hit d m a p x (walk (seeking d k b) (suc p) xs).lamps e,
          )
      go (no e) (yes f) ih =
          rw (
            miss d m a p x xs e,
            hit d k b p x (walk (seeking d m a) (suc p) xs).lamps f,
            hit d k b p x xs f,
            miss d m a p (acted d k x) xs (still k a real-a e),
          )
      go (no e) (no f) ih =
          rw (
            miss d m a p x xs e,
            miss d k b p x (walk (seeking d m a) (suc p) xs).lamps f,
            miss d k b p x xs f,
            miss d m a p x (walk (seeking d k b) (suc p) xs).lamps e,
          )
          (ap (past x) ih)

-- What a delivery does to lamps.
abbrev doing : Defaults → Delivery → List Lamp → Walked
doing d i xs = delivering d xs (dissecting i.telegram) i.room

-- What the command m for the address a does, by its room ..
abbrev sought : Defaults → Message → ℕ → Bool → List Lamp → Walked
sought d m a small xs = cond small (record { lamps = xs; outcome = refused 9 }) (walk (seeking d m a) 0 xs)

-- .. is what a delivery of it does.
does : (d : Defaults) (i : Delivery) (a : ℕ) (f : ForOne i a) (xs : List Lamp)
    → doing d i xs ≡ sought d f.sent.message a (room_small i.room) xs
does d i a f xs = rw f.dissected (plain-walks d xs i.room f.sent f.plain ∙ rw f.cast)

-- The order of two deliveries, with their rooms.
trades : (d : Defaults) (i j : Delivery) (a b : ℕ) → ForOne i a → ForOne j b → a ≢ b → (xs : List Lamp)
    → doing d j (doing d i xs).lamps ≡ record { lamps = (doing d i (doing d j xs).lamps).lamps; outcome = (doing d j xs).outcome }
trades d i j a b f g apart xs = simp (does d i a f, does d j b g) (go (room_small i.room) (room_small j.room))
  where
    real : (l : Delivery) (c : ℕ) → ForOne l c → c ≢ no_address.0
    real l c h k = omega (arith, (one-lamp l.telegram h.sent (record { 0 = c }) h.dissected h.cast).1)

    first : Bool → List Lamp → Walked
    first = sought d f.sent.message a

    second : Bool → List Lamp → Walked
    second = sought d g.sent.message b

    go : (s t : Bool)
        → second t (first s xs).lamps ≡ record { lamps = (first s (second t xs).lamps).lamps; outcome = (second t xs).outcome }
    go true true = refl
    go true false = refl
    go false true = refl
    go false false = walks d f.sent.message g.sent.message a b apart (real i a f) (real j b g) 0 xs

-- Behind the list before them, and with any list after them.
pub neighbours-trade : NeighboursTrade
unfolding NeighboursTrade deliver
neighbours-trade c [] i j after a b f g apart =
    let e = trades c.defaults i j a b f g apart c.lamps in
    let e' = trades c.defaults j i b a g f (λ k. apart (sym k)) c.lamps in
    let of_i = (deliver c i.telegram i.room).outcome in
    let of_j = (deliver c j.telegram j.room).outcome in
    let rest : Walked → List (Outcome (List ℕ)) = λ w. (run (with_lamps c w.lamps) after).outcomes in
    let of_after = rest (doing c.defaults j (doing c.defaults i c.lamps).lamps) in
    record {
      chain = ap (λ (w : Walked). (run (with_lamps c w.lamps) after).chain) e;
      of_before = [];
      of_i = of_i;
      of_j = of_j;
      of_after = of_after;
      aligned = refl;
      straight = ap (λ (w : Walked). of_i ∷ w.outcome ∷ of_after) e;
      crossed = ap (λ (w : Walked). of_j ∷ w.outcome ∷ rest w) e';
    }
neighbours-trade c (l ∷ ls) i j after a b f g apart =
    let m = deliver c l.telegram l.room in
    let t = neighbours-trade m.chain ls i j after a b f g apart in
    record {
      chain = t.chain;
      of_before = m.outcome ∷ t.of_before;
      of_i = t.of_i;
      of_j = t.of_j;
      of_after = t.of_after;
      aligned = ap suc t.aligned;
      straight = ap (m.outcome ∷◌) t.straight;
      crossed = ap (m.outcome ∷◌) t.crossed;
    }
