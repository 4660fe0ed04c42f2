-- Demand 3, the rest of the list: what the dissector refuses, or what goes to an address that init gave to no lamp, changes no lamp.
-- Assumes nothing.
use Prim.Native.Nat.{ℕ}
use native.Mathlib.Omega.{arith}
use mathlib.Core.Path.{◌≡◌, refl, sym, ap, ◌∙◌, subst}
use mathlib.Core.List.{List, [], ◌∷◌}
use lib.ListN.{length}
use Rattle.telegram.specs.Numbers.{Outcome}
use Rattle.command.specs.Commands.{Sent, dissecting}
use Rattle.rules.specs.declared.Defaults.{Defaults}
use Rattle.rules.specs.declared.Lamp.{Lamp}
use Rattle.rules.specs.Lamp.{blank}
use Rattle.rules.specs.Chain.{Chain, with_lamps, Walked, delivering, deliver}
use Rattle.rules.specs.Lists.{Delivery, run, Listed, AllListed, Nobodys, unanswered, NobodysChangeNothing}
use Rattle.rules.proofs.Walks.{Numbered, nobody}
use Rattle.rules.proofs.Deliveries.{by-course, listed-numbered}
use Rattle.rules.proofs.Starting.{initialised-length, initialised-numbered, started}
use Rattle.rules.proofs.Kept.{run-keeps}

-- A list leaves the lamps numbered.
run-numbered : (a : ℕ) (c : Chain) → Numbered a 0 c.lamps → (is : List Delivery) → AllListed is
    → Numbered a 0 (run c is).chain.lamps
unfolding deliver
run-numbered a c h [] l = h
run-numbered a c h (i ∷ is) l =
    run-numbered a (deliver c i.telegram i.room).chain
    (listed-numbered c.defaults i.telegram i.room a c.lamps h l.0) is l.1

-- One such delivery.
unheard : (d : Defaults) (s : List ℕ) (room a : ℕ) (xs : List Lamp) → Numbered a 0 xs → Listed (dissecting s)
    → Nobodys (length xs) a (dissecting s)
    → delivering d xs (dissecting s) room ≡ record { lamps = xs; outcome = unanswered (dissecting s) room }
unheard d s room a xs h =
    by-course d s room
    (λ (o : Outcome Sent) (f : List Lamp → Walked).
    Nobodys (length xs) a o → f xs ≡ record { lamps = xs; outcome = unanswered o room })
    (λ o e n. rw e)
    (λ r e n. rw e)
    (λ t b e c real n. rw e (nobody d t.message b.0 a real 0 xs h (λ q l k. (rw c at n) q l (k ∙ omega arith))))
    (dissecting s) refl

-- After any list before it.
pub nobodys-change-nothing : NobodysChangeNothing
unfolding NobodysChangeNothing deliver
nobodys-change-nothing n d k a c before i s hb hi hn =
    let u = started n d k a c s in
    let e : Chain = (run c before).chain in
    let h = run-numbered a c (rw u.lamps (initialised-numbered k a (blank d 0) 0 n)) before hb in
    let count : length e.lamps ≡ n =
    (run-keeps c before).count ∙ ap length u.lamps ∙ initialised-length k a (blank d 0) 0 n in
    let w =
    unheard e.defaults i.telegram i.room a e.lamps h hi
    (subst (λ (m : ℕ). Nobodys m a (dissecting i.telegram)) (sym count) hn) in
    (ap (λ (v : Walked). with_lamps e v.lamps) w, ap (λ (v : Walked). v.outcome) w)
