-- The walk of a telegram along the lamps: what it keeps, where it ended, and the walk of a telegram for one address.
-- Assumes nothing.
use Prim.Native.Nat.{ℕ, zero, suc, ◌+◌, ◌≤◌, ◌<◌}
use native.Mathlib.Omega.{arith}
use native.Mathlib.Nat.{add-zero}
use native.Mathlib.Decide.{ℕ_discrete}
use mathlib.Core.Path.{◌≡◌, refl, sym, ap, ◌∙◌, subst}
use mathlib.Core.Logic.{◌≢◌, ◌⊎◌, inl, inr}
use mathlib.Core.Bool.{Bool, true, false, cond}
use mathlib.Core.List.{List, [], ◌∷◌}
use lib.Dec.{eqb}
use lib.ListN.{length}
use borrow.Author.Tests.{eq-eqb, ne_eqb, eqb-true}
use Rattle.telegram.specs.Numbers.{Outcome, done}
use Rattle.telegram.specs.declared.Address.{Address}
use Rattle.telegram.proofs.Outcomes.{where-true, either, never, done-one}
use Rattle.table.specs.Table.{plain_number}
use Rattle.table.specs.declared.Cast.TheVariants.{One}
use Rattle.table.proofs.Acknowledged.{plain-reset}
use Rattle.command.specs.Commands.{Message}
use Rattle.rules.specs.declared.Defaults.{Defaults}
use Rattle.rules.specs.declared.Lamp.{Lamp}
use Rattle.rules.specs.declared.State.{State}
use Rattle.rules.specs.declared.State.TheVariants.{Sleep, Active, DeepSleep}
use Rattle.rules.specs.Lamp.{no_address, reset, cleared, with_state, with_groups, with_thresholds, with_setup, with_pwm, field, pwm_words, changed_plain, acted, answered, obeys}
use Rattle.rules.specs.Chain.{Step, onward, ends, Walked, stepped, walk, answer_from, reaching, lamp_in}

-- The lamp that a step leaves.
abbrev pub lamp_of : Step → Lamp
lamp_of (onward y) = y
lamp_of (ends y o) = y

-- A step puts back one lamp.
stepped-length : (s : Step) (xs : List Lamp) (w : Walked) → length w.lamps ≡ length xs
    → length (stepped s xs w).lamps ≡ suc (length xs)
stepped-length (onward y) xs w e = ap suc e
stepped-length (ends y o) xs w e = cc

-- A walk keeps the count of lamps.
pub walk-length : (visit : ℕ → Lamp → Step) (p : ℕ) (xs : List Lamp) → length (walk visit p xs).lamps ≡ length xs
walk-length visit p [] = refl
walk-length visit p (x ∷ xs) = stepped-length (visit p x) xs (walk visit (suc p) xs) (walk-length visit (suc p) xs)

-- Each lamp, from place p on, has P at its place.
abbrev pub Each : (ℕ → Lamp → Type 0) → ℕ → List Lamp → Type 0
Each P p [] = Unit {0}
Each P p (x ∷ xs) = P p x × Each P (suc p) xs

-- Each lamp, from place p on, is to what it became as R says of its place.
abbrev pub Became : (ℕ → Lamp → Lamp → Type 0) → ℕ → List Lamp → List Lamp → Type 0
Became R p [] [] = Unit {0}
Became R p [] (y ∷ ys) = ⊥
Became R p (x ∷ xs) [] = ⊥
Became R p (x ∷ xs) (y ∷ ys) = R p x y × Became R (suc p) xs ys

-- Lamps that stayed, where R holds of a lamp that stays.
stayed : (R : ℕ → Lamp → Lamp → Type 0) → ((p : ℕ) (x : Lamp) → R p x x) → (p : ℕ) (xs : List Lamp) → Became R p xs xs
stayed R same p [] = tt
stayed R same p (x ∷ xs) = (same p x, stayed R same (suc p) xs)

-- Behind a step, the lamps are as they were or as the walk left them.
stepped-became : (R : ℕ → Lamp → Lamp → Type 0) → ((p : ℕ) (x : Lamp) → R p x x) → (s : Step) (p : ℕ) (x : Lamp) (xs : List Lamp) (w : Walked)
    → R p x (lamp_of s) → Became R (suc p) xs w.lamps → Became R p (x ∷ xs) (stepped s xs w).lamps
stepped-became R same (onward y) p x xs w h ih = (h, ih)
stepped-became R same (ends y o) p x xs w h ih = (h, stayed R same (suc p) xs)

-- What holds between a lamp before and after a visit, at each of n places, holds of each lamp before and after a walk.
pub walk-became : (R : ℕ → Lamp → Lamp → Type 0) (visit : ℕ → Lamp → Step) (n : ℕ) → ((p : ℕ) (x : Lamp) → R p x x)
    → ((p : ℕ) (x : Lamp) → p < n → R p x (lamp_of (visit p x)))
    → (p : ℕ) (xs : List Lamp) → p + length xs ≤ n → Became R p xs (walk visit p xs).lamps
walk-became R visit n same visits p [] l = tt
walk-became R visit n same visits p (x ∷ xs) l =
    stepped-became R same (visit p x) p x xs (walk visit (suc p) xs) (visits p x (omega arith))
    (walk-became R visit n same visits (suc p) xs (omega arith))

-- What each lamp keeps, all keep.
kept-each : (P : ℕ → Lamp → Type 0) (p : ℕ) (xs ys : List Lamp) → Became (λ (q : ℕ) (x y : Lamp). P q x → P q y) p xs ys
    → Each P p xs → Each P p ys
kept-each P p [] [] b h = tt
kept-each P p [] (y ∷ ys) b h = absurd b
kept-each P p (x ∷ xs) [] b h = absurd b
kept-each P p (x ∷ xs) (y ∷ ys) b h = (b.0 h.0, kept-each P (suc p) xs ys b.1 h.1)

-- What a visit keeps at each of n places, a walk keeps of each lamp.
pub walk-each : (P : ℕ → Lamp → Type 0) (visit : ℕ → Lamp → Step) (n : ℕ)
    → ((p : ℕ) (x : Lamp) → p < n → P p x → P p (lamp_of (visit p x)))
    → (p : ℕ) (xs : List Lamp) → p + length xs ≤ n → Each P p xs → Each P p (walk visit p xs).lamps
walk-each P visit n keeps p xs l =
    kept-each P p xs (walk visit p xs).lamps (walk-became (λ (q : ℕ) (x y : Lamp). P q x → P q y) visit n (λ q x h. h) keeps p xs l)

-- Where a visit at a place ends, P holds of the place, of the lamp that it leaves and of the outcome.
abbrev pub Ending : (ℕ → Lamp → Outcome (List ℕ) → Type 0) → ℕ → Step → Type 0
Ending P p (onward y) = Unit {0}
Ending P p (ends y o) = P p y o

-- A walk from place p on is done without an answer, or P holds of a place, of the lamp that it leaves there and of its outcome.
abbrev pub Ended : (ℕ → Lamp → Outcome (List ℕ) → Type 0) → ℕ → Walked → Type 0
Ended P p w = (w.outcome ≡ done []) ⊎ ((q : ℕ) × ((y : Lamp) × ((lamp_in w.lamps q ≡ done y) × P (p + q) y w.outcome)))

-- What holds where a visit ends, at each of n places, holds where a walk ended.
pub walk-ended : (P : ℕ → Lamp → Outcome (List ℕ) → Type 0) (visit : ℕ → Lamp → Step) (n : ℕ)
    → ((p : ℕ) (x : Lamp) → p < n → Ending P p (visit p x))
    → (p : ℕ) (xs : List Lamp) → p + length xs ≤ n → Ended P p (walk visit p xs)
walk-ended P visit n visits p [] l = inl refl
walk-ended P visit n visits p (x ∷ xs) l =
    go (visit p x) (visits p x (omega arith)) (walk-ended P visit n visits (suc p) xs (omega arith))
  where
    go : (s : Step) → Ending P p s → Ended P (suc p) (walk visit (suc p) xs) → Ended P p (stepped s xs (walk visit (suc p) xs))
    go (onward y) h (inl e) = inl e
    go (onward y) h (inr r) =
        let k : suc p + r.0 ≡ p + suc r.0 = omega arith in
        inr (suc r.0, (r.1.0, (r.1.1.0, subst (λ (i : ℕ). P i r.1.0 (walk visit (suc p) xs).outcome) k r.1.1.1)))
    go (ends y o) h ih = inr (0, (y, (refl, subst (λ (i : ℕ). P i y o) (sym (add-zero p)) h)))

-- What a command may make of a lamp, case by case by the number of its plain form, and that P holds of it.
pub record Cases (P : Lamp → Type 0) (d : Defaults) (m : Message) (l : Lamp) : Type 0 where
  pub stays : P l
  pub resets : plain_number m.number ≡ 0x00 → P (reset d l)
  pub clears : P (cleared l)
  pub goes : (s : State) → P (with_state s l)
  pub groups : plain_number m.number ≡ 0x0D → P (with_groups (field m 0) l)
  pub thresholds : plain_number m.number ≡ 0x4B → P (with_thresholds (record { cycle = field m 0; low = field m 1; high = field m 2 }) l)
  pub setup : plain_number m.number ≡ 0x4D → P (with_setup (field m 0) l)
  pub pwm : plain_number m.number ≡ 0x4F → P (with_pwm (pwm_words m.fields) l)

-- What holds in each case holds of the lamp after the command.
pub acted-cases : (P : Lamp → Type 0) (d : Defaults) (m : Message) (l : Lamp) → Cases P d m l → P (acted d m l)
unfolding acted changed_plain
acted-cases P d m l c =
    let n = plain_number m.number in
    either P (obeys m.number l.state)
    (where-true P (eqb n 0x00) (λ e. c.resets (eqb-true _ _ e))
    (either P (eqb n 0x01) c.clears
    (either P (eqb n 0x04) (c.goes Sleep)
    (either P (eqb n 0x05) (c.goes Active)
    (either P (eqb n 0x06) (c.goes DeepSleep)
    (where-true P (eqb n 0x0D) (λ e. c.groups (eqb-true _ _ e))
    (either P (eqb n 0x40) c.clears
    (either P (eqb n 0x42) c.clears
    (where-true P (eqb n 0x4B) (λ e. c.thresholds (eqb-true _ _ e))
    (where-true P (eqb n 0x4D) (λ e. c.setup (eqb-true _ _ e))
    (where-true P (eqb n 0x4F) (λ e. c.pwm (eqb-true _ _ e))
    c.stays)))))))))))
    c.stays

-- A command leaves a lamp's address, and RESET takes it away: what holds of the address, and where that is asked of 3FF, holds of the
-- address after it.
pub acted-kept : (P : Address → Type 0) (d : Defaults) (m : Message) (l : Lamp) → (m.number ≡ 0x00 → P no_address) → P l.address
    → P (acted d m l).address
acted-kept P d m l z h =
    acted-cases (λ (x : Lamp). P x.address) d m l
    (record {
      stays = h;
      resets = λ e. z (plain-reset m.number e);
      clears = h;
      goes = λ s. h;
      groups = λ e. h;
      thresholds = λ e. h;
      setup = λ e. h;
      pwm = λ e. h;
    })

pub acted-address : (P : Address → Type 0) (d : Defaults) (m : Message) (l : Lamp) → P no_address → P l.address
    → P (acted d m l).address
acted-address P d m l z h = acted-kept P d m l (λ e. z) h

-- The address c of a lamp to which init gave s: that one, or none since a RESET.
abbrev pub Home : ℕ → Address → Type 0
Home s c = (c.0 ≡ s) ⊎ (c.0 ≡ no_address.0)

-- The lamps from place p on of a chain numbered from a.
abbrev pub Numbered : ℕ → ℕ → List Lamp → Type 0
Numbered a p xs = Each (λ (q : ℕ) (x : Lamp). Home (a + q) x.address) p xs

-- It is no other address that a telegram can be sent to.
away : (s b : ℕ) (c : Address) → Home s c → b ≢ s → b ≢ no_address.0 → c.0 ≢ b
away s b c (inl h) other real e = other (sym e ∙ h)
away s b c (inr h) other real e = real (sym e ∙ h)

-- A walk that has passed a lamp by.
abbrev pub past : Lamp → Walked → Walked
past x w = record { lamps = x ∷ w.lamps; outcome = w.outcome }

-- The walk of a command for the address b.
module _ (d : Defaults) (m : Message) (b : ℕ) where
  abbrev pub seeking : ℕ → Lamp → Step
  seeking = reaching d m (One (record { 0 = b }))

  -- It ends at a lamp with that address ..
  pub hit : (p : ℕ) (x : Lamp) (xs : List Lamp) → x.address.0 ≡ b
      → walk seeking p (x ∷ xs)
      ≡ record { lamps = acted d m x ∷ xs; outcome = done (answer_from b m.number (answered d m x)) }
  hit p x xs e = rw (eq-eqb x.address.0 b e)

  -- .. and passes by a lamp with another one.
  pub miss : (p : ℕ) (x : Lamp) (xs : List Lamp) → x.address.0 ≢ b
      → walk seeking p (x ∷ xs) ≡ past x (walk seeking (suc p) xs)
  miss p x xs h = rw (ne_eqb x.address.0 b h)

  -- What holds of 3FF and of a lamp's address holds of its address after the visit.
  pub sought-address : (P : Address → Type 0) (p : ℕ) (x : Lamp) → P no_address → P x.address
      → P (lamp_of (seeking p x)).address
  sought-address P p x z h = go (eqb x.address.0 b)
    where
      go : (t : Bool)
          → P (lamp_of (cond t (ends (acted d m x) (done (answer_from b m.number (answered d m x)))) (onward x))).address
      go true = acted-address P d m x z h
      go false = h

  -- Lamps numbered from a stay so.
  pub still-numbered : (a : ℕ) (xs : List Lamp) → Numbered a 0 xs → Numbered a 0 (walk seeking 0 xs).lamps
  still-numbered a xs =
      walk-each (λ (q : ℕ) (x : Lamp). Home (a + q) x.address) seeking (length xs)
      (λ q x l h. sought-address (Home (a + q)) q x (inr refl) h) 0 xs (omega arith)

  -- Along lamps numbered from a, for an address that a telegram can be sent to.
  module _ (a : ℕ) (real : b ≢ no_address.0) where
    -- No place has the address: nothing happens, and there is no answer.
    pub nobody : (p : ℕ) (xs : List Lamp) → Numbered a p xs → ((q : ℕ) → q < length xs → b ≢ a + (p + q))
        → walk seeking p xs ≡ record { lamps = xs; outcome = done [] }
    nobody p [] h out = refl
    nobody p (x ∷ xs) h out =
        miss p x xs (away (a + p) b x.address h.0 (λ e. out 0 (omega arith) (omega arith)) real)
        ∙ ap (past x) (nobody (suc p) xs h.1 (λ q l e. out (suc q) (omega arith) (omega arith)))

    -- At another place the lamp stays.
    pub at_other : (p q : ℕ) (xs : List Lamp) (x : Lamp) → Numbered a p xs → lamp_in xs q ≡ done x → b ≢ a + (p + q)
        → lamp_in (walk seeking p xs).lamps q ≡ done x
    at_other p q [] x h e ne = absurd (never e)
    at_other p zero (y ∷ ys) x h e ne = rw (miss p y ys (away (a + p) b y.address h.0 (omega arith) real)) e
    at_other p (suc q) (y ∷ ys) x h e ne = go (ℕ_discrete y.address.0 b) (at_other (suc p) q ys x h.1 e (omega arith))
      where
        go : Dec (y.address.0 ≡ b) → lamp_in (walk seeking (suc p) ys).lamps q ≡ done x
            → lamp_in (walk seeking p (y ∷ ys)).lamps (suc q) ≡ done x
        go (yes g) ih = rw (hit p y ys g) e
        go (no g) ih = rw (miss p y ys g) ih

    -- At the place that has the address the lamp becomes what it becomes alone, and the outcome is the one alone.
    abbrev pub AsAlone : Lamp → ℕ → Walked → Type 0
    AsAlone x q w =
        (y : Lamp) × ((lamp_in w.lamps q ≡ done y) × (walk seeking 0 (x ∷ []) ≡ record { lamps = y ∷ []; outcome = w.outcome }))

    pub at_own : (p q : ℕ) (xs : List Lamp) (x : Lamp) → Numbered a p xs → lamp_in xs q ≡ done x → b ≡ a + (p + q)
        → AsAlone x q (walk seeking p xs)
    at_own p q [] x h e eb = absurd (never e)
    at_own p zero (y ∷ ys) x h e eb =
        subst (λ (z : Lamp). AsAlone z 0 (walk seeking p (y ∷ ys))) (done-one e) (go (ℕ_discrete y.address.0 b))
      where
        go : Dec (y.address.0 ≡ b) → AsAlone y 0 (walk seeking p (y ∷ ys))
        go (yes g) = rw (hit p y ys g, hit 0 y [] g) (acted d m y, (refl, refl))
        go (no g) = rw (miss p y ys g, miss 0 y [] g, nobody (suc p) ys h.1 (λ q l u. omega arith)) (y, (refl, refl))
    at_own p (suc q) (y ∷ ys) x h e eb =
        rw (miss p y ys (away (a + p) b y.address h.0 (omega arith) real))
        (at_own (suc p) q ys x h.1 e (omega arith))
