-- The walk of a telegram along the lamps as the code does it: each lamp in turn, or one lamp found first, or all with an answer at
-- the end.
-- Assumes nothing.
use mathlib.Core.Path.{◌≡◌, refl, sym, ap, ◌∙◌}
use mathlib.Core.Bool.{Bool, true, false, cond}
use mathlib.Core.List.{List, [], ◌∷◌}
use Prim.Native.Nat.{ℕ, suc, ◌+◌, ◌-◌, ◌<◌}
use native.Mathlib.Omega.{arith}
use native.Mathlib.Nat.{zero-add, add-zero, not-suc-le-zero}
use lib.Dec.{eqb}
use lib.ListN.{length, get_or, set}
use borrow.Author.Tests.{eq-eqb, ne_eqb}
use Rattle.telegram.specs.Numbers.{Outcome, done}
use Rattle.telegram.specs.declared.Address.{Address}
use Rattle.table.specs.declared.Cast.TheVariants.{Everyone, One, Group}
use Rattle.command.specs.Commands.{Message}
use Rattle.rules.specs.declared.Place.{Place}
use Rattle.rules.specs.declared.Defaults.{Defaults}
use Rattle.rules.specs.declared.Lamp.{Lamp}
use Rattle.rules.specs.Lamp.{report, acted, answered, member, numbered_as, with_ce}
use Rattle.rules.specs.Chain.{Step, onward, ends, Walked, stepped, walk, answer_from, reaching, last_answers, initialising}
use Rattle.chain.specs.Places.{place_from}
use Rattle.std.specs.Prelude.{Option, Some, None}
use Rattle.chain.proofs.Sweeps.{each_from}

-- A telegram that always goes on does its rule to each lamp.
walk-onward : (rule : ℕ → Lamp → Lamp) (p : ℕ) (xs : List Lamp)
    → walk (λ (q : ℕ) (l : Lamp). onward (rule q l)) p xs ≡ record { lamps = each_from rule p xs; outcome = done [] }
unfolding each_from
walk-onward rule p [] = refl
walk-onward rule p (x ∷ xs) = ap (stepped (onward (rule p x)) xs) (walk-onward rule (suc p) xs)

-- So for everyone, and for a group.
module _ (d : Defaults) (m : Message) (p : ℕ) (xs : List Lamp) where
  pub walk-everyone : walk (reaching d m Everyone) p xs ≡ record { lamps = each_from (λ (q : ℕ) (l : Lamp). acted d m l) p xs; outcome = done [] }
  walk-everyone = walk-onward (λ (q : ℕ) (l : Lamp). acted d m l) p xs

  pub walk-group : (g : ℕ) → walk (reaching d m (Group g)) p xs
      ≡ record { lamps = each_from (λ (q : ℕ) (l : Lamp). cond (member g l) (acted d m l) l) p xs; outcome = done [] }
  walk-group g = walk-onward (λ (q : ℕ) (l : Lamp). cond (member g l) (acted d m l) l) p xs

-- A telegram that ends at the first lamp with an address: where the lookup finds it, and what the walk leaves.
module _ (a : ℕ) (rule : Lamp → Lamp) (tell : Lamp → Outcome (List ℕ)) where
  abbrev stopping : ℕ → Lamp → Step
  stopping q l = cond (eqb l.address.0 a) (ends (rule l) (tell l)) (onward l)

  abbrev Stops : ℕ → List Lamp → Walked → Option Place → Type 0
  Stops p xs w None = w ≡ record { lamps = xs; outcome = done [] }
  Stops p xs w (Some q) =
      (k : ℕ) × (q.0 ≡ p + k) × (k < length xs)
      × ((y : Lamp) → w ≡ record { lamps = set xs k (rule (get_or xs k y)); outcome = tell (get_or xs k y) })

  behind : (p : ℕ) (x : Lamp) (xs : List Lamp) (w : Walked) (f : Option Place) → Stops (suc p) xs w f
      → Stops p (x ∷ xs) (stepped (onward x) xs w) f
  behind p x xs w None e = ap (stepped (onward x) xs) e
  behind p x xs w (Some q) r =
      let e : q.0 ≡ suc p + r.0 = r.1 in
      let h : r.0 < length xs = r.2 in
      (suc r.0, omega arith, omega arith, λ y. ap (stepped (onward x) xs) (r.3 y))

  stops : (p : ℕ) (xs : List Lamp) → Stops p xs (walk stopping p xs) (place_from p a xs)
  unfolding place_from
  stops p [] = refl
  stops p (x ∷ xs) = go (eqb x.address.0 a) (stops (suc p) xs)
    where
      go : (b : Bool) → Stops (suc p) xs (walk stopping (suc p) xs) (place_from (suc p) a xs)
          → Stops p (x ∷ xs) (stepped (cond b (ends (rule x) (tell x)) (onward x)) xs (walk stopping (suc p) xs))
          (cond b (Some (record { 0 = p })) (place_from (suc p) a xs))
      go true r = (0, omega arith, omega arith, λ y. refl)
      go false r = behind p x xs (walk stopping (suc p) xs) (place_from (suc p) a xs) r

-- Unicast: nobody has the address, or the lamp at the place that was found takes the telegram and answers.
module _ (d : Defaults) (m : Message) (a : Address) (xs : List Lamp) where
  abbrev answers : Lamp → Outcome (List ℕ)
  answers l = done (answer_from a.0 m.number (answered d m l))

  pub walk-nobody : (p : ℕ) → place_from p a.0 xs ≡ None → walk (reaching d m (One a)) p xs ≡ record { lamps = xs; outcome = done [] }
  walk-nobody p e = rw e at (stops a.0 (acted d m) answers p xs)

  pub walk-found : (q : Place) → place_from 0 a.0 xs ≡ Some q → (y : Lamp)
      → (q.0 < length xs)
      × (walk (reaching d m (One a)) 0 xs
      ≡ record {
        lamps = set xs q.0 (acted d m (get_or xs q.0 y));
        outcome = done (answer_from a.0 m.number (answered d m (get_or xs q.0 y)));
      })
  walk-found q e y =
      let r = rw e at (stops a.0 (acted d m) answers 0 xs) in
      let k : r.0 ≡ q.0 = sym (r.1 ∙ zero-add r.0) in
      (rw (← k) r.2, rw (← k) (r.3 y))

-- A telegram that the last lamp answers does its rule to each lamp, and the answer is the last one's.
walk-last : (n k : ℕ) (address : ℕ → ℕ) (rule : ℕ → Lamp → Lamp) (y : Lamp) (p : ℕ) (x : Lamp) (xs : List Lamp) → n ≡ suc (p + length xs)
    → walk (λ (q : ℕ) (l : Lamp). last_answers (eqb (suc q) n) (address q) k (rule q l)) p (x ∷ xs)
    ≡ record {
      lamps = each_from rule p (x ∷ xs);
      outcome = done (answer_from (address (p + length xs)) k (report (get_or (each_from rule p (x ∷ xs)) (length xs) y)));
    }
unfolding each_from
walk-last n k address rule y p x [] e = rw (eq-eqb (suc p) n (omega arith), add-zero)
walk-last n k address rule y p x (z ∷ zs) e =
    let s : suc p + length zs ≡ p + length (z ∷ zs) = omega arith in
    rw (ne_eqb (suc p) n (λ h. omega arith), ← s)
    (ap (stepped (onward (rule p x)) (z ∷ zs)) (walk-last n k address rule y (suc p) z zs (omega arith)))

-- The same from place 0 on.
walk-answered : (k : ℕ) (address : ℕ → ℕ) (rule : ℕ → Lamp → Lamp) (y : Lamp) (xs : List Lamp) → 0 < length xs
    → walk (λ (q : ℕ) (l : Lamp). last_answers (eqb (suc q) (length xs)) (address q) k (rule q l)) 0 xs
    ≡ record {
      lamps = each_from rule 0 xs;
      outcome = done (answer_from (address (length xs - 1)) k (report (get_or (each_from rule 0 xs) (length xs - 1) y)));
    }
walk-answered k address rule y [] h = absurd (not-suc-le-zero h)
walk-answered k address rule y (x ∷ xs) h =
    let e : length (x ∷ xs) - 1 ≡ length xs = omega arith in
    rw e (rw (zero-add (length xs)) at (walk-last (length (x ∷ xs)) k address rule y 0 x xs (omega arith)))

-- Init from an address, and at 000.
module _ (k : ℕ) (y : Lamp) (xs : List Lamp) (h : 0 < length xs) where
  pub walk-init : (a : Address) → walk (initialising (length xs) k (One a)) 0 xs
      ≡ record {
        lamps = each_from (λ (p : ℕ) (l : Lamp). numbered_as k (a.0 + p) l) 0 xs;
        outcome =
            done (answer_from (a.0 + (length xs - 1)) k
            (report (get_or (each_from (λ (p : ℕ) (l : Lamp). numbered_as k (a.0 + p) l) 0 xs) (length xs - 1) y)));
      }
  walk-init a = walk-answered k (λ (p : ℕ). a.0 + p) (λ (p : ℕ) (l : Lamp). numbered_as k (a.0 + p) l) y xs h

  pub walk-init-all : walk (initialising (length xs) k Everyone) 0 xs
      ≡ record {
        lamps = each_from (λ (p : ℕ) (l : Lamp). cond (eqb k 0x02) (with_ce l) l) 0 xs;
        outcome =
            done (answer_from 0 k
            (report (get_or (each_from (λ (p : ℕ) (l : Lamp). cond (eqb k 0x02) (with_ce l) l) 0 xs) (length xs - 1) y)));
      }
  walk-init-all = walk-answered k (λ (p : ℕ). 0) (λ (p : ℕ) (l : Lamp). cond (eqb k 0x02) (with_ce l) l) y xs h
