-- Demand 3: over every list of deliveries each lamp of a numbered chain ends, and answers, as it would alone.
-- Assumes nothing.
use Prim.Native.Nat.{ℕ, ◌+◌}
use native.Mathlib.Omega.{arith}
use mathlib.Core.Path.{◌≡◌, refl, sym, ap, ap₂, ◌∙◌}
use mathlib.Core.Logic.{◌≢◌}
use mathlib.Core.Bool.{Bool, true, false, true≢false, false≢true}
use mathlib.Core.List.{List, [], ◌∷◌}
use lib.Dec.{eqb}
use borrow.Author.Tests.{eqb-true, eqb-false}
use Rattle.telegram.specs.Numbers.{Reason, bare, Outcome, refused_for, done}
use Rattle.telegram.specs.declared.Address.{Address}
use Rattle.table.specs.declared.Cast.TheVariants.{One}
use Rattle.command.specs.Commands.{Sent, dissecting}
use Rattle.rules.specs.declared.Defaults.{Defaults}
use Rattle.rules.specs.declared.Lamp.{Lamp}
use Rattle.rules.specs.Lamp.{no_address, blank, numbered_as}
use Rattle.rules.specs.Chain.{Chain, with_lamps, Walked, walk, reaching, delivering, deliver, lamp_in}
use Rattle.rules.specs.Lists.{Delivery, Listed, AllListed, cast_for, own, Alone, EachAsAlone}
use Rattle.rules.proofs.Walks.{Numbered, at_other, at_own}
use Rattle.rules.proofs.Deliveries.{by-course, listed-numbered}
use Rattle.rules.proofs.Starting.{initialised-numbered, initialised-at, started}

-- What f does to lamps, seen from the lamp x at place p: it is that lamp's own or not.
record Seen (xs : List Lamp) (p : ℕ) (x : Lamp) (mine : Bool) (f : List Lamp → Walked) : Type 0 where
  lamp : Lamp
  together : lamp_in (f xs).lamps p ≡ done lamp
  alone : mine ≡ true → f (x ∷ []) ≡ record { lamps = lamp ∷ []; outcome = (f xs).outcome }
  other : mine ≡ false → lamp ≡ x

-- Of lamps numbered from a.
module _ (d : Defaults) (a : ℕ) (xs : List Lamp) (p : ℕ) (x : Lamp) (hn : Numbered a 0 xs) (hp : lamp_in xs p ≡ done x) where
  -- A refusal is seen by none.
  seen-refused : (mine : Bool) (r : Reason) → Seen xs p x mine (λ (ys : List Lamp). record { lamps = ys; outcome = refused_for r })
  seen-refused mine r = record { lamp = x; together = hp; alone = λ e. refl; other = λ e. refl }

  -- The walk to one address is seen by the lamp that got it.
  seen-walk : (t : Sent) (b : Address) → t.cast ≡ One b → b.0 ≢ no_address.0
      → Seen xs p x (cast_for (a + p) t.cast) (λ (ys : List Lamp). walk (reaching d t.message (One b)) 0 ys)
  seen-walk t b c real = rw c (go (eqb b.0 (a + p)) refl)
    where
      go : (mine : Bool) → eqb b.0 (a + p) ≡ mine
          → Seen xs p x mine (λ (ys : List Lamp). walk (reaching d t.message (One b)) 0 ys)
      go true k =
          let v = at_own d t.message b.0 a real 0 p xs x hn hp (eqb-true b.0 (a + p) k ∙ omega arith) in
          record { lamp = v.0; together = v.1.0; alone = λ z. v.1.1; other = λ z. absurd (true≢false z) }
      go false k =
          record {
            lamp = x;
            together = at_other d t.message b.0 a real 0 p xs x hn hp (λ z. eqb-false b.0 (a + p) k (omega arith));
            alone = λ z. absurd (false≢true z);
            other = λ z. refl;
          }

  -- A delivery that a list may hold.
  seen : (s : List ℕ) (room : ℕ) → Listed (dissecting s)
      → Seen xs p x (own (a + p) (dissecting s)) (λ (ys : List Lamp). delivering d ys (dissecting s) room)
  seen s room =
      by-course d s room (λ (o : Outcome Sent) (f : List Lamp → Walked). Seen xs p x (own (a + p) o) f)
      (λ o e. seen-refused (own (a + p) o) (bare 9))
      (λ r e. seen-refused false r)
      (λ t b e c real. seen-walk t b c real)
      (dissecting s) refl

-- The chain c, numbered from a, and the lone chain c₁ of its place p: the same lamp.
record Beside (a p : ℕ) (c c₁ : Chain) : Type 0 where
  defaults : c₁.defaults ≡ c.defaults
  numbered : Numbered a 0 c.lamps
  lamp : Lamp
  place : lamp_in c.lamps p ≡ done lamp
  alone : c₁.lamps ≡ lamp ∷ []

-- Over a list they stay so, and each own telegram has the same outcome.
beside : (a p : ℕ) (c c₁ : Chain) → Beside a p c c₁ → (is : List Delivery) → AllListed is → Alone p (a + p) c c₁ is
unfolding deliver
beside a p c c₁ b [] h = record { lamp = b.lamp; together = b.place; alone = b.alone; outcomes = refl }
beside a p c c₁ b (i ∷ is) h =
    go (own (a + p) (dissecting i.telegram)) refl (λ e e₁ b'. beside a p e e₁ b' is h.1)
  where
    did : Chain → Walked
    did e = delivering e.defaults e.lamps (dissecting i.telegram) i.room

    numbered : Numbered a 0 (did c).lamps
    numbered = listed-numbered c.defaults i.telegram i.room a c.lamps b.numbered h.0

    v : Seen c.lamps p b.lamp (own (a + p) (dissecting i.telegram))
        (λ (ys : List Lamp). delivering c.defaults ys (dissecting i.telegram) i.room)
    v = seen c.defaults a c.lamps p b.lamp b.numbered b.place i.telegram i.room h.0

    go : (mine : Bool) → own (a + p) (dissecting i.telegram) ≡ mine
        → ((e e₁ : Chain) → Beside a p e e₁ → Alone p (a + p) e e₁ is) → Alone p (a + p) c c₁ (i ∷ is)
    go true k next =
        let lone : did c₁ ≡ record { lamps = v.lamp ∷ []; outcome = (did c).outcome } = rw (b.defaults, b.alone) (v.alone k) in
        let r =
        next (with_lamps c (did c).lamps) (with_lamps c₁ (did c₁).lamps)
        (record {
          defaults = b.defaults;
          numbered = numbered;
          lamp = v.lamp;
          place = v.together;
          alone = ap (λ (w : Walked). w.lamps) lone;
        }) in
        record {
          lamp = r.lamp;
          together = r.together;
          alone = rw k r.alone;
          outcomes = rw k (ap₂ ◌∷◌ (sym (ap (λ (w : Walked). w.outcome) lone)) r.outcomes);
        }
    go false k next =
        let r =
        next (with_lamps c (did c).lamps) c₁
        (record {
          defaults = b.defaults;
          numbered = numbered;
          lamp = b.lamp;
          place = v.together ∙ ap done (v.other k);
          alone = b.alone;
        }) in
        record { lamp = r.lamp; together = r.together; alone = rw k r.alone; outcomes = rw k r.outcomes }

-- Each lamp of a started chain is beside its lone chain.
pub each-as-alone : EachAsAlone
unfolding EachAsAlone
each-as-alone n d k a p c c₁ s h s₁ is l =
    let u = started n d k a c s in
    let v = started 1 d k (a + p) c₁ s₁ in
    beside a p c c₁
    (record {
      defaults = v.defaults ∙ sym u.defaults;
      numbered = rw u.lamps (initialised-numbered k a (blank d 0) 0 n);
      lamp = numbered_as k (a + (0 + p)) (blank d 0);
      place = rw u.lamps (initialised-at k a (blank d 0) 0 n p h);
      alone = v.lamps ∙ ap (λ (b : ℕ). numbered_as k b (blank d 0) ∷ []) (omega arith);
    })
    is l
