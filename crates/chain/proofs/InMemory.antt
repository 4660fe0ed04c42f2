-- Demand 3 over the contracts of `make` and `deliver` on real memory.
-- Assumes nothing.
use Prim.Native.Nat.{ℕ, suc, ◌+◌, ◌<◌}
use mathlib.Core.Path.{◌≡◌, refl, sym, ap, ap₂, ◌∙◌}
use mathlib.Core.Logic.{◌≢◌}
use mathlib.Core.Bool.{Bool, true, false}
use mathlib.Core.List.{List, [], ◌∷◌, ◌++◌, map}
use lib.ListN.{length, replicate, length-replicate}
use native.Mathlib.Omega.{arith}
use borrow.Author.Tests.{le-leb}
use Rattle.telegram.specs.Numbers.{Outcome, refused_for, done, counted, leaves}
use Rattle.rules.specs.declared.Defaults.{Defaults}
use Rattle.rules.specs.Chain.{Chain, count_right, room_small, Moved, deliver, lamp_in}
use Rattle.rules.specs.Lists.{Delivery, run, own_marks, keep, ForOne, Start, EachAsAlone, NeighboursTrade, NobodysChangeNothing}
use Rattle.rules.proofs.Starting.{made-fresh, lone-start}
use Rattle.rules.proofs.Kept.{deliver-keeps}
use Rattle.rules.proofs.Alone.{each-as-alone}
use Rattle.rules.proofs.Trading.{neighbours-trade}
use Rattle.rules.proofs.Nobodys.{nobodys-change-nothing}
use Rattle.chain.specs.Record.{record_length, hold, chain_in}
use Rattle.chain.specs.Memory.{Left, made}
use Rattle.std.specs.Prelude.{Ok}
use Rattle.chain.specs.Calls.{Call, delivery_of, Started, EachAsAloneInMemory, NeighboursTradeInMemory, NobodysChangeNothingInMemory}
use Rattle.chain.proofs.Records.{hold-hold}
use Rattle.chain.proofs.Exits.{made-done, held-done}
use Rattle.chain.proofs.Calling.{calling, onto, Went, going, heard-call, calls-go, small-in, enough-in, kept-holds, holds_read, holds-call, calls-run, made_holds, started-holds}

-- What is kept of a list, of each entry.
keep-map : {A B : Type 0} (f : A → B) (ts : List Bool) (xs : List A) → map f (keep ts xs) ≡ keep ts (map f xs)
keep-map f [] xs = refl
keep-map f (t ∷ ts) [] = refl
keep-map f (true ∷ ts) (x ∷ xs) = ap (f x ∷◌) (keep-map f ts xs)
keep-map f (false ∷ ts) (x ∷ xs) = keep-map f ts xs

-- Each lamp in memory ends, and answers, as it would alone.
pub each-as-alone-in-memory : EachAsAloneInMemory
unfolding EachAsAloneInMemory EachAsAlone
each-as-alone-in-memory n d k a p mem mem₁ s h s₁ ks rs rs₁ l q q₁ =
    let b = started-holds n d k a mem s in
    let b₁ = started-holds 1 d k (a + p) mem₁ s₁ in
    let is : List Delivery = map delivery_of ks in
    let ts : List Bool = own_marks (a + p) is in
    let r = calls-run mem b.0 b.1.0 ks rs q in
    let r₁ = calls-run mem₁ b₁.0 b₁.1.0 (keep ts ks) rs₁ q₁ in
    let v = each-as-alone n d k a p b.0 b₁.0 b.1.1 h b₁.1.1 is l in
    let w : map delivery_of (keep ts ks) ≡ keep ts is = keep-map delivery_of ts ks in
    record {
      lamp = v.lamp;
      together = holds_read _ _ r.holds p ∙ v.together;
      alone =
          holds_read _ _ r₁.holds 0
          ∙ ap (λ (js : List Delivery). lamp_in (run b₁.0 js).chain.lamps 0) w
          ∙ ap (λ (xs : List _). lamp_in xs 0) v.alone;
      outcomes =
          ap (keep ts) r.outcomes ∙ v.outcomes
          ∙ sym (r₁.outcomes ∙ ap (λ (js : List Delivery). (run b₁.0 js).outcomes) w);
    }

-- What is nobody's changes no byte.
pub nobodys-change-nothing-in-memory : NobodysChangeNothingInMemory
unfolding NobodysChangeNothingInMemory NobodysChangeNothing
nobodys-change-nothing-in-memory n d k a mem before rs i r s hb q hi hn h =
    let b = started-holds n d k a mem s in
    let w = calls-run mem b.0 b.1.0 before rs q in
    let e = holds-call _ _ w.holds i in
    let v = nobodys-change-nothing n d k a b.0 (map delivery_of before) (delivery_of i) b.1.1 hb hi hn in (
      h.memory ∙ ap (λ (l : Left). l.memory) e ∙ ap (hold _) v.0 ∙ w.holds.self,
      heard-call _ i r h ∙ ap (λ (l : Left). l.outcome) e ∙ v.1,
    )

-- Two entries, listed in two orders.
second : {A : Type 0} (x y z w u v : A) (xs ys : List A) → length xs ≡ 0 → x ∷ y ∷ [] ≡ xs ++ u ∷ v ∷ ys → z ∷ w ∷ [] ≡ xs ++ v ∷ u ∷ ys
    → y ≡ z
second x y z w u v [] ys n e f = cc
second x y z w u v (t ∷ xs) ys n e f = absurd (omega (arith, n))

-- The first of two calls writes the chain; the second goes on with it.
call-call : (mem : List ℕ) (c : Chain) (i j : Call) → chain_in mem ≡ done c → room_small (length i.room) ≡ false
    → calling (calling mem i).memory j
    ≡ record { memory = hold mem (onto (onto c i).chain j).chain; outcome = (onto (onto c i).chain j).outcome }
call-call mem c i j e big =
    let x = (onto c i).chain in
    ap (λ (l : Left). calling l.memory j) (enough-in i mem (done c) big e)
    ∙ holds-call (hold mem x) x (kept-holds mem c x e (deliver-keeps c i.telegram (length i.room))) j
    ∙ ap (λ (m : List ℕ). record { memory = m; outcome = (onto x j).outcome })
    (hold-hold mem x (onto x j).chain (sym (deliver-keeps x j.telegram (length j.room)).count))

-- Two calls for different addresses: in either order they leave the same, and the second one's outcome is as if it were the first.
module _ (i j : Call) (a b : ℕ) (f : ForOne (delivery_of i) a) (g : ForOne (delivery_of j) b) (apart : a ≢ b) where
  -- On a chain ..
  trade-on : (c : Chain) → onto (onto c i).chain j ≡ record { chain = (onto (onto c j).chain i).chain; outcome = (onto c j).outcome }
  unfolding NeighboursTrade
  trade-on c =
      let t = neighbours-trade c [] (delivery_of i) (delivery_of j) [] a b f g apart in
      ap₂ (λ (x : Chain) (o : Outcome (List ℕ)). record { chain = x; outcome = o }) t.chain
      (second _ _ _ _ _ _ t.of_before t.of_after t.aligned t.straight t.crossed)

  -- .. and on any memory.
  trade-in : (mem : List ℕ)
      → calling (calling mem i).memory j ≡ record { memory = (calling (calling mem j).memory i).memory; outcome = (calling mem j).outcome }
  trade-in mem = go (room_small (length i.room)) (room_small (length j.room)) (chain_in mem) refl refl refl
    where
      go : (x y : Bool) (o : Outcome Chain) → room_small (length i.room) ≡ x → room_small (length j.room) ≡ y → chain_in mem ≡ o
          → calling (calling mem i).memory j
          ≡ record { memory = (calling (calling mem j).memory i).memory; outcome = (calling mem j).outcome }
      go true y o ei ej e = simp (small-in i ei)
      go false true o ei ej e = simp (small-in j ej)
      go false false (refused_for d) ei ej e =
          simp (enough-in i mem (refused_for d) ei e, enough-in j mem (refused_for d) ej e)
      go false false (done c) ei ej e =
          call-call mem c i j e ei
          ∙ ap (λ (m : Moved). record { memory = hold mem m.chain; outcome = m.outcome }) (trade-on c)
          ∙ sym (ap₂ (λ (x y : Left). record { memory = x.memory; outcome = y.outcome }) (call-call mem c j i e ej)
          (enough-in j mem (done c) ej e))

-- A list of calls goes as its front and then the rest, with an outcome of each.
going-append : (mem : List ℕ) (xs ys : List Call)
    → let w : Went = going mem xs in let v : Went = going w.memory ys in
    going mem (xs ++ ys) ≡ record { memory = v.memory; outcomes = w.outcomes ++ v.outcomes }
going-append mem [] ys = refl
going-append mem (x ∷ xs) ys =
    ap (λ (w : Went). record { memory = w.memory; outcomes = (calling mem x).outcome ∷ w.outcomes })
    (going-append (calling mem x).memory xs ys)

going-length : (mem : List ℕ) (ks : List Call) → length (going mem ks).outcomes ≡ length ks
going-length mem [] = refl
going-length mem (k ∷ ks) = ap suc (going-length (calling mem k).memory ks)

-- Neighbours for different addresses trade places, on any memory.
pub neighbours-trade-in-memory : NeighboursTradeInMemory
unfolding NeighboursTradeInMemory
neighbours-trade-in-memory mem before i j after rs rs₁ a b f g apart q q₁ =
    let u = calls-go mem (before ++ i ∷ j ∷ after) rs q in
    let v = calls-go mem (before ++ j ∷ i ∷ after) rs₁ q₁ in
    let p = going-append mem before (i ∷ j ∷ after) in
    let p₁ = going-append mem before (j ∷ i ∷ after) in
    let w : Went = going mem before in
    let e = trade-in i j a b f g apart w.memory in
    let e₁ = trade-in j i b a g f (λ k. apart (sym k)) w.memory in
    let of_i = (calling w.memory i).outcome in
    let of_j = (calling w.memory j).outcome in
    let of_after = (going (calling (calling w.memory i).memory j).memory after).outcomes in
    record {
      memory =
          u.0 ∙ ap (λ (x : Went). x.memory) p ∙ ap (λ (l : Left). (going l.memory after).memory) e
          ∙ sym (v.0 ∙ ap (λ (x : Went). x.memory) p₁);
      of_before = w.outcomes;
      of_i = of_i;
      of_j = of_j;
      of_after = of_after;
      aligned = going-length mem before;
      straight = u.1 ∙ ap (λ (x : Went). x.outcomes) p ∙ ap (λ (l : Left). w.outcomes ++ of_i ∷ l.outcome ∷ of_after) e;
      crossed =
          v.1 ∙ ap (λ (x : Went). x.outcomes) p₁
          ∙ ap (λ (l : Left). w.outcomes ++ of_j ∷ l.outcome ∷ (going l.memory after).outcomes) e₁;
    }

-- Every start of the rules is one in memory.
pub start-in-memory : (n : ℕ) (d : Defaults) (k a : ℕ) (c : Chain) → Start n d k a c → (mem : List ℕ) × Started n d k a mem
start-in-memory n d k a c s =
    let before : List ℕ = replicate (record_length n) 0 in
    let u = made-fresh n d s.made s.making-done in
    let right : count_right n ≡ true = simp (le-leb 1 n u.0, le-leb n 1007 u.1.0) in
    let m : made before n d ≡ done s.made = made-done before n d right (rw length-replicate (omega arith)) ∙ ap done u.1.1 in
    let t = held-done before (made before n d) m refl in
    let call : Call = record { telegram = s.telegram; room = replicate s.room 0 } in
    let h = (made_holds before n d s.made m).1 in
    let l : Left = calling (hold before s.made) call in
    let e : l.outcome ≡ done s.answer =
    ap (λ (x : Left). x.outcome) (holds-call _ s.made h call)
    ∙ ap (λ (r : ℕ). (deliver s.made s.telegram r).outcome) (length-replicate s.room 0) ∙ s.accepted in (
      l.memory,
      record {
        before = before;
        make_answer = Ok 0;
        fresh = hold before s.made;
        makes = record { answered = t.answer; memory = t.memory };
        made = refl;
        call = call;
        sent = s.sent;
        dissected = s.dissected;
        kind = s.kind;
        init = s.init;
        first = s.first;
        returned = record { memory = l.memory; room = leaves l.outcome call.room; answer = Ok (length s.answer) };
        delivers = record { answer = sym (ap counted e); memory = refl; room = refl };
        count = length s.answer;
        accepted = refl;
        left = refl;
      },
    )

-- So the lone lamp of each place can be made and numbered in memory.
pub lone-start-in-memory : (n : ℕ) (d : Defaults) (k a p : ℕ) (mem : List ℕ) → Started n d k a mem → p < n
    → (mem₁ : List ℕ) × Started 1 d k (a + p) mem₁
lone-start-in-memory n d k a p mem s h =
    let b = started-holds n d k a mem s in
    let l = lone-start n d k a p b.0 b.1.1 h in
    start-in-memory 1 d k (a + p) l.0 l.1
