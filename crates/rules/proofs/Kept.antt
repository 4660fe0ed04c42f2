-- What every call keeps of a chain: its defaults, its count of lamps, and that it is valid.
-- Assumes nothing.
use Prim.Native.Nat.{ℕ, zero, suc, ◌+◌, ◌≤◌, ◌<◌}
use native.Mathlib.Omega.{arith}
use mathlib.Core.Path.{◌≡◌, refl, sym, ap, ◌∙◌, subst}
use mathlib.Core.Bool.{Bool, true, false, cond, ◌&&◌}
use mathlib.Core.List.{List, [], ◌∷◌}
use lib.Dec.{eqb, ltb}
use lib.ListN.{length, set, replicate, length-set, length-replicate}
use borrow.Author.Tests.{le-leb, ne_eqb}
use Rattle.telegram.specs.Numbers.{Outcome, refused_for, refused, done, after}
use Rattle.telegram.specs.declared.Address.{Address}
use Rattle.telegram.proofs.Outcomes.{either, done-one, passed, went_on}
use Rattle.table.specs.declared.Cast.{Cast}
use Rattle.table.specs.declared.Cast.TheVariants.{Everyone, One, Group}
use Rattle.command.specs.Commands.{Sent, dissecting}
use Rattle.table.proofs.Both.{and_left, and_right}
use Rattle.command.proofs.RoundTrip.{one-lamp}
use Rattle.rules.specs.declared.Defaults.{Defaults}
use Rattle.rules.specs.declared.Lamp.{Lamp}
use Rattle.rules.specs.Lamp.{blank, member, numbered_as, with_ce, sensed}
use Rattle.rules.specs.Chain.{Chain, with_lamps, count_right, address_right, lamp_right, lamps_right, chain_right, fresh, making, walk, reaching, is_init, last_answers, initialising, visiting, permitting, first_ce, taken, responding, room_small, delivering, deliver, lamp_in, sensing}
use Rattle.rules.specs.Lists.{Delivery, run}
use Rattle.rules.proofs.Walks.{lamp_of, walk-length, Each, walk-each, acted-address, sought-address}
use Rattle.rules.proofs.Deliveries.{permitted, permitted-fits}
use Rattle.rules.proofs.Starting.{made-fresh}

-- A valid lamp, at whichever place, and an address that it may have.
abbrev Right : ℕ → Lamp → Type 0
Right p x = lamp_right x ≡ true

abbrev Valid : Address → Type 0
Valid c = address_right c.0 ≡ true

-- The test on all lamps, and the same of each lamp.
right-each : (p : ℕ) (xs : List Lamp) → lamps_right xs ≡ true → Each Right p xs
right-each p [] h = tt
right-each p (x ∷ xs) h = (and_left _ _ h, right-each (suc p) xs (and_right (lamp_right x) _ h))

each_right : (p : ℕ) (xs : List Lamp) → Each Right p xs → lamps_right xs ≡ true
each_right p [] h = refl
each_right p (x ∷ xs) h = simp (h.0, each_right (suc p) xs h.1)

-- An address 001 to 3EF is right.
address-right : (b : ℕ) → 1 ≤ b → b ≤ 0x3EF → address_right b ≡ true
address-right b l u = simp (ne_eqb b 0x3FF (λ (e : b ≡ 0x3FF). omega arith), le-leb 1 b l, le-leb b 0x3EF u)

-- Whether the last lamp answers or not, it stays.
last-lamp : (b : Bool) (a k : ℕ) (l : Lamp) → lamp_of (last_answers b a k l) ≡ l
last-lamp true a k l = refl
last-lamp false a k l = refl

-- A visit leaves a lamp valid: an init from a, with a + n at most 1008.
visit-right : (d : Defaults) (n : ℕ) (t : Sent)
    → ((a : Address) → is_init t.message.number ≡ true → t.cast ≡ One a → (1 ≤ a.0) × (a.0 + n ≤ 1008))
    → (p : ℕ) (x : Lamp) → p < n → Right p x → Right p (lamp_of (visiting d n t p x))
unfolding visiting
visit-right d n t fits p x l h = go (is_init k) t.cast fits
  where
    k : ℕ
    k = t.message.number

    go : (b : Bool) (cast : Cast) → ((a : Address) → b ≡ true → cast ≡ One a → (1 ≤ a.0) × (a.0 + n ≤ 1008))
        → Right p (lamp_of (cond b (initialising n k cast) (reaching d t.message cast) p x))
    go true Everyone f = rw (last-lamp (eqb (suc p) n) 0 k (cond (eqb k 0x02) (with_ce x) x)) (either (Right p) (eqb k 0x02) h h)
    go true (One a) f =
        let r = f a refl refl in
        rw (last-lamp (eqb (suc p) n) (a.0 + p) k (numbered_as k (a.0 + p) x)) (address-right (a.0 + p) (omega arith) (omega arith))
    go true (Group g) f = h
    go false Everyone f = acted-address Valid d t.message x refl h
    go false (One a) f = sought-address d t.message a.0 Valid p x refl h
    go false (Group g) f = either (Right p) (member g x) (acted-address Valid d t.message x refl h) h

-- Lamps that became others: as many, and valid where they were.
record Held (xs ys : List Lamp) : Type 0 where
  count : length ys ≡ length xs
  right : lamps_right xs ≡ true → lamps_right ys ≡ true

-- The same lamps, and those with CE set on the first.
held_same : (xs : List Lamp) → Held xs xs
held_same xs = record { count = refl; right = λ h. h }

held_first : (xs : List Lamp) → Held xs (first_ce xs)
held_first [] = held_same []
held_first (x ∷ xs) = record { count = refl; right = λ h. h }

-- A refusal leaves them so, and the walk of what was permitted of a dissected telegram.
held-taken : (d : Defaults) (xs : List Lamp) (s : List ℕ) (r : Outcome Sent) → after (dissecting s) (permitting xs) ≡ r
    → Held xs (taken d xs r).lamps
held-taken d xs s (refused_for r) e = go (eqb r.number 5)
  where
    go : (b : Bool) → Held xs (cond b (first_ce xs) xs)
    go true = held_first xs
    go false = held_same xs
held-taken d xs s (done t) e =
    let p = permitted xs (dissecting s) t e in
    let visit = visiting d (length xs) t in
    record {
      count = walk-length visit 0 xs;
      right = λ h.
          each_right 0 (walk visit 0 xs).lamps
          (walk-each Right visit (length xs)
          (visit-right d (length xs) t (λ a i c. ((one-lamp s t a p.0 c).0, permitted-fits xs t a p.1 i c)))
          0 xs (omega arith) (right-each 0 xs h));
    }

-- So does the whole delivery.
held-delivering : (d : Defaults) (xs : List Lamp) (s : List ℕ) (room : ℕ) → Held xs (delivering d xs (dissecting s) room).lamps
unfolding delivering responding
held-delivering d xs s room = go (room_small room)
  where
    go : (b : Bool)
        → Held xs (cond b (record { lamps = xs; outcome = refused 9 }) (taken d xs (after (dissecting s) (permitting xs)))).lamps
    go true = held_same xs
    go false = held-taken d xs s (after (dissecting s) (permitting xs)) refl

-- One lamp set anew, with its own address.
held-set : (xs : List Lamp) (p : ℕ) (x y : Lamp) → lamp_in xs p ≡ done x → y.address ≡ x.address → Held xs (set xs p y)
held-set xs p x y e a = record { count = length-set xs p y; right = λ h. same xs p e ∙ h }
  where
    same : (zs : List Lamp) (q : ℕ) → lamp_in zs q ≡ done x → lamps_right (set zs q y) ≡ lamps_right zs
    same [] q k = refl
    same (z ∷ zs) zero k =
        ap (λ (s : Address). address_right s.0 && lamps_right zs) (a ∙ sym (ap (λ (l : Lamp). l.address) (done-one k)))
    same (z ∷ zs) (suc q) k = ap (λ (b : Bool). lamp_right z && b) (same zs q k)

-- What a call keeps of a chain c that becomes e.
pub record Keeps (c e : Chain) : Type 0 where
  pub defaults : e.defaults ≡ c.defaults
  pub count : length e.lamps ≡ length c.lamps
  pub right : chain_right c ≡ true → chain_right e ≡ true

-- A chain with such lamps.
held_keeps : (c : Chain) (ys : List Lamp) → Held c.lamps ys → Keeps c (with_lamps c ys)
unfolding chain_right
held_keeps c ys k =
    record {
      defaults = refl;
      count = k.count;
      right = λ h.
          let n : count_right (length c.lamps) ≡ true = and_left _ _ h in
          rw (k.count, n) (k.right (and_right (count_right (length c.lamps)) _ h));
    }

-- So keeps a delivery of whatever bytes, with whatever room ..
pub deliver-keeps : (c : Chain) (s : List ℕ) (room : ℕ) → Keeps c (deliver c s room).chain
unfolding deliver
deliver-keeps c s room =
    held_keeps c (delivering c.defaults c.lamps (dissecting s) room).lamps (held-delivering c.defaults c.lamps s room)

-- .. a sensor report that is done ..
pub sense-keeps : (c : Chain) (p t faults : ℕ) (e : Chain) → sensing c p t faults ≡ done e → Keeps c e
unfolding sensing
sense-keeps c p t faults e h =
    let g = went_on (lamp_in c.lamps p) _ h in
    subst (Keeps c) (done-one (passed (ltb 7 faults) 10 _ g.1.1).1)
    (held_keeps c (set c.lamps p (sensed t faults g.0)) (held-set c.lamps p g.0 (sensed t faults g.0) g.1.0 refl))

-- .. and every list of deliveries.
pub run-keeps : (c : Chain) (is : List Delivery) → Keeps c (run c is).chain
run-keeps c [] = held_keeps c c.lamps (held_same c.lamps)
run-keeps c (i ∷ is) =
    let k = deliver-keeps c i.telegram i.room in
    let r = run-keeps (deliver c i.telegram i.room).chain is in
    record { defaults = r.defaults ∙ k.defaults; count = r.count ∙ k.count; right = λ h. r.right (k.right h) }

-- A chain that was made is valid.
pub made-right : (n : ℕ) (d : Defaults) (c : Chain) → making n d ≡ done c → chain_right c ≡ true
unfolding chain_right fresh
made-right n d c e =
    let f = made-fresh n d c e in
    subst (λ (x : Chain). chain_right x ≡ true) f.1.1
    (simp (length-replicate, le-leb 1 n f.0, le-leb n 1007 f.1.0) (all n))
  where
    all : (m : ℕ) → lamps_right (replicate m (blank d 0)) ≡ true
    all zero = refl
    all (suc m) = all m
