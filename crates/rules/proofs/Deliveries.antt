-- What a delivery comes to, by what the dissector gave. Callers cite these and do not unfold `delivering`.
-- Assumes nothing.
use Prim.Native.Nat.{ℕ, ◌+◌, ◌-◌, ◌≤◌}
use native.Mathlib.Omega.{arith}
use mathlib.Core.Path.{◌≡◌, refl, sym, ap, ◌∙◌, subst}
use mathlib.Core.Logic.{◌≢◌}
use mathlib.Core.Bool.{Bool, true, false, cond}
use mathlib.Core.List.{List}
use lib.Dec.{ltb}
use lib.ListN.{length}
use borrow.Author.Tests.{ne_eqb, ltb-false}
use Rattle.telegram.specs.Numbers.{Reason, Outcome, refused_for, refused, done, after}
use Rattle.telegram.specs.declared.Address.{Address}
use Rattle.telegram.proofs.Outcomes.{never, done-one, passed, went_on}
use Rattle.table.specs.declared.Cast.{Cast}
use Rattle.table.specs.declared.Cast.TheVariants.{Everyone, One, Group}
use Rattle.command.specs.Commands.{Sent, dissecting}
use Rattle.command.proofs.RoundTrip.{one-lamp}
use Rattle.rules.specs.declared.Defaults.{Defaults}
use Rattle.rules.specs.declared.Lamp.{Lamp}
use Rattle.rules.specs.Lamp.{no_address}
use Rattle.rules.specs.Chain.{Walked, walk, reaching, is_init, visiting, any_unaddressed, permitting_init, permitting, taken, responding, room_small, delivering}
use Rattle.rules.specs.Lists.{OneLamp, Listed}
use Rattle.rules.proofs.Walks.{Numbered, still-numbered}

-- A permitted init from a does not run past 3EF.
pub permitted-fits : (xs : List Lamp) (t : Sent) (a : Address) → permitting xs t ≡ done t → is_init t.message.number ≡ true
    → t.cast ≡ One a → a.0 + length xs ≤ 1008
unfolding permitting
permitted-fits xs t a h init first =
    omega (arith, ltb-false 0x3EF (a.0 + length xs - 1) (passed _ 12 (done t) (simp (init, first) at h)).0)

-- What is permitted is what the dissector accepted.
pub permitted : (xs : List Lamp) (o : Outcome Sent) (t : Sent) → after o (permitting xs) ≡ done t
    → (o ≡ done t) × (permitting xs t ≡ done t)
unfolding permitting
permitted xs o t e =
    let g = went_on o (permitting xs) e in
    let q : g.0 ≡ t = same g.0 (is_init g.0.message.number) g.0.cast g.1.1 in
    (g.1.0 ∙ ap done q, subst (λ (u : Sent). permitting xs u ≡ done t) q g.1.1)
  where
    same : (u : Sent) (b : Bool) (cast : Cast) → cond b (permitting_init xs u cast) (done u) ≡ done t → u ≡ t
    same u false cast k = done-one k
    same u true Everyone k = done-one (passed (any_unaddressed xs) 7 (done u) k).1
    same u true (One a) k = done-one (passed (ltb 0x3EF (a.0 + length xs - 1)) 12 (done u) k).1
    same u true (Group g) k = absurd (never k)

module _ (d : Defaults) (xs : List Lamp) (room : ℕ) (t : Sent) where
  -- A command that is no init walks along the lamps, with a room of 12 bytes.
  pub plain-walks : is_init t.message.number ≡ false
      → delivering d xs (done t) room
      ≡ cond (room_small room) (record { lamps = xs; outcome = refused 9 }) (walk (reaching d t.message t.cast) 0 xs)
  unfolding delivering responding permitting visiting
  plain-walks h = simp h

  -- So does whatever is permitted.
  pub permitted-walks : room_small room ≡ false → permitting xs t ≡ done t
      → delivering d xs (done t) room ≡ walk (visiting d (length xs) t) 0 xs
  unfolding delivering responding
  permitted-walks small h = simp (small, h)

-- Only what the dissector accepted is done.
pub accepted-sent : (d : Defaults) (xs : List Lamp) (o : Outcome Sent) (room : ℕ) {answer : List ℕ}
    → (delivering d xs o room).outcome ≡ done answer → (t : Sent) × (o ≡ done t)
unfolding delivering responding
accepted-sent d xs (refused_for r) room {answer} e = absurd (go (room_small room) e)
  where
    go : (b : Bool) → (cond b (record { lamps = xs; outcome = refused 9 }) (taken d xs (refused_for r))).outcome ≡ done answer → ⊥
    go true k = never k
    go false k = never k
accepted-sent d xs (done t) room e = (t, refl)

-- What a delivery that is done has behind it.
pub record Delivered (d : Defaults) (xs : List Lamp) (t : Sent) (room : ℕ) : Type 0 where
  pub enough : 12 ≤ room
  pub allowed : permitting xs t ≡ done t
  pub walked : delivering d xs (done t) room ≡ walk (visiting d (length xs) t) 0 xs

-- Only what has a room of 12 bytes and is permitted is done.
pub delivered : (d : Defaults) (xs : List Lamp) (t : Sent) (room : ℕ) {answer : List ℕ}
    → (delivering d xs (done t) room).outcome ≡ done answer → Delivered d xs t room
unfolding delivering responding
delivered d xs t room {answer} e = go (room_small room) (permitting xs t) refl refl e
  where
    go : (small : Bool) (r : Outcome Sent) → room_small room ≡ small → permitting xs t ≡ r
        → (cond small (record { lamps = xs; outcome = refused 9 }) (taken d xs r)).outcome ≡ done answer → Delivered d xs t room
    go true r es er k = absurd (never k)
    go false (refused_for x) es er k = absurd (never k)
    go false (done u) es er k =
        let h : permitting xs t ≡ done t = er ∙ sym (permitted xs (done t) u er).0 in
        record { enough = ltb-false room 12 es; allowed = h; walked = permitted-walks d xs room t es h }

-- The course of a delivery that a list may hold: its room is small, or it is refused for its reason, or it walks to one address,
-- which is not 3FF. What holds of each holds of the delivery.
module _ (d : Defaults) (s : List ℕ) (room : ℕ) (P : Outcome Sent → (List Lamp → Walked) → Type 0)
    (small : (o : Outcome Sent) → room_small room ≡ true → P o (λ (xs : List Lamp). record { lamps = xs; outcome = refused 9 }))
    (refusal : (r : Reason) → room_small room ≡ false → P (refused_for r) (λ (xs : List Lamp). record { lamps = xs; outcome = refused_for r }))
    (walks : (t : Sent) (b : Address) → room_small room ≡ false → t.cast ≡ One b → b.0 ≢ no_address.0
    → P (done t) (λ (xs : List Lamp). walk (reaching d t.message (One b)) 0 xs)) where
  pub by-course : (o : Outcome Sent) → dissecting s ≡ o → Listed o → P o (λ (xs : List Lamp). delivering d xs o room)
  unfolding delivering responding
  by-course (refused_for r) e h = go (room_small room) refl
    where
      go : (b : Bool) → room_small room ≡ b
          → P (refused_for r) (λ (xs : List Lamp). cond b (record { lamps = xs; outcome = refused 9 }) (taken d xs (refused_for r)))
      go true k = small (refused_for r) k
      go false k = rw (ne_eqb r.number 5 h) (refusal r k)
  by-course (done t) e h =
      let plain : is_init t.message.number ≡ false = h.0 in
      simp plain-walks (go (room_small room) refl t.cast refl h.1)
    where
      go : (b : Bool) → room_small room ≡ b → (cast : Cast) → t.cast ≡ cast → OneLamp cast
          → P (done t) (λ (xs : List Lamp). cond b (record { lamps = xs; outcome = refused 9 }) (walk (reaching d t.message cast) 0 xs))
      go true k cast c o = small (done t) k
      go false k Everyone c o = absurd o
      go false k (One b) c o = walks t b k c (λ (z : b.0 ≡ no_address.0). omega (arith, (one-lamp s t b e c).1))
      go false k (Group g) c o = absurd o

-- So lamps numbered from a stay so.
pub listed-numbered : (d : Defaults) (s : List ℕ) (room a : ℕ) (xs : List Lamp) → Numbered a 0 xs → Listed (dissecting s)
    → Numbered a 0 (delivering d xs (dissecting s) room).lamps
listed-numbered d s room a xs h =
    by-course d s room (λ (o : Outcome Sent) (f : List Lamp → Walked). Numbered a 0 (f xs).lamps) (λ o e. h) (λ n e. h)
    (λ t b e c real. still-numbered d t.message b.0 a xs h) (dissecting s) refl
