-- Every answer that a chain gives is accepted by the answer dissector, with the lamp's address and that command.
-- Assumes nothing.
use mathlib.Core.Path.{◌≡◌, refl, sym, ap, ◌∙◌, subst}
use mathlib.Core.Logic.{inl, inr}
use mathlib.Core.Bool.{Bool, true, false, cond, ◌||◌, false≢true}
use mathlib.Core.List.{List, [], ◌∷◌}
use Prim.Native.Nat.{ℕ, suc, ◌+◌, ◌≤◌, ◌<◌}
use native.Mathlib.Omega.{arith}
use lib.Dec.{eqb}
use lib.ListN.{length}
use borrow.Author.Tests.{eqb-true}
use Rattle.telegram.specs.Numbers.{Outcome, refused_for, refused, done, refuse}
use Rattle.telegram.specs.declared.Address.{Address}
use Rattle.telegram.proofs.Outcomes.{never, done-one, passed}
use Rattle.table.specs.Casts.{address_of}
use Rattle.table.specs.Table.{row_of, answer_size_of}
use Rattle.table.specs.declared.Cast.{Cast}
use Rattle.table.specs.declared.Cast.TheVariants.{Everyone, One, Group}
use Rattle.command.specs.Commands.{Message, Sent, dissecting}
use Rattle.command.proofs.RoundTrip.{one-lamp}
use Rattle.answer.specs.Answers.{answer_address}
use Rattle.answer.proofs.RoundTrip.{built-answers, lamp-address}
use Rattle.rules.specs.declared.Defaults.{Defaults}
use Rattle.rules.specs.declared.Lamp.{Lamp}
use Rattle.rules.specs.Lamp.{report, acted, answered, numbered_as, with_ce}
use Rattle.rules.specs.Chain.{Chain, onward, ends, walk, answer_from, reaching, is_init, last_answers, initialising, visiting, room_small, delivering, deliver, lamp_in}
use Rattle.rules.proofs.Walks.{Ending, Ended, walk-ended, acted-kept}
use Rattle.rules.proofs.Deliveries.{permitted-fits, accepted-sent, delivered as done-delivery}
use Rattle.rules.proofs.Kept.{deliver-keeps}
use Rattle.lamp.proofs.Payloads.{Sized, answered-sized}
use Rattle.chain.specs.Record.{chain_in}
use Rattle.chain.specs.Memory.{delivered, on_chain, lamp_read}
use Rattle.chain.specs.Replies.{Carries, AnswerOf, AnswerAccepted, EveryAnswerAccepted, EveryAnswerAcceptedInMemory}
use Rattle.chain.proofs.Calling.{heard-call, kept-holds, holds_read}

-- Where there is an answer, it is accepted as that of the lamp y at place p of n, the last one if it answers an init.
abbrev Answers : Sent → ℕ → ℕ → Lamp → Outcome (List ℕ) → Type 0
Answers t n p y o =
    (x : ℕ) (xs : List ℕ) → o ≡ done (x ∷ xs) → AnswerOf t y (x ∷ xs) × (is_init t.message.number ≡ true → suc p ≡ n)

-- No bytes are no answer.
silence : {x : ℕ} {xs : List ℕ} → ◌≡◌ {A = Outcome (List ℕ)} (done []) (done (x ∷ xs)) → ⊥
silence e = let z : ◌≡◌ {A = ℕ} 0 1 = cc in omega arith

-- An answer of the bytes p from the address a. That a is the address to carry is asked only where the command has an answer.
answers : (t : Sent) (n i : ℕ) (y : Lamp) (a : ℕ) (p : List ℕ) → answer_address t.message.number a ≡ true → Sized t.message.number p
    → ((k : ℕ) → answer_size_of t.message.number ≡ done (suc k) → Carries t.cast y a)
    → (is_init t.message.number ≡ false → a ≡ address_of t.cast)
    → (is_init t.message.number ≡ true → suc i ≡ n)
    → Answers t n i y (done (answer_from a t.message.number p))
answers t n i y a [] from size carries asked last x xs e = absurd (silence e)
answers t n i y a (z ∷ zs) from size carries asked last x xs e = (
  subst (AnswerOf t y) (done-one e)
      (record {
        reply = _;
        accepted = built-answers a t.message.number (z ∷ zs) from size (omega arith);
        number = refl;
        address = carries (length zs) size;
        asked = asked;
      }),
  last,
)

-- RESET has no answer.
reset-silent : (n k : ℕ) → answer_size_of n ≡ done (suc k) → n ≡ 0x00 → ⊥
unfolding row_of
reset-silent n k e z = let q : 0 ≡ suc k = done-one (sym (ap answer_size_of z) ∙ e) in omega arith

-- An init has an answer of two bytes, and that may have the address 000.
init-sized : (n : ℕ) → is_init n ≡ true → answer_size_of n ≡ done 2
unfolding is_init row_of
init-sized n h = go (eqb n 0x02) (eqb n 0x03) refl refl h
  where
    go : (b₂ b₃ : Bool) → eqb n 0x02 ≡ b₂ → eqb n 0x03 ≡ b₃ → (b₂ || b₃) ≡ true → answer_size_of n ≡ done 2
    go true b₃ e₂ e₃ k = ap answer_size_of (eqb-true n 0x02 e₂)
    go false true e₂ e₃ k = ap answer_size_of (eqb-true n 0x03 e₃)
    go false false e₂ e₃ k = absurd (false≢true k)

init-everyone : (n : ℕ) → is_init n ≡ true → answer_address n 0 ≡ true
unfolding is_init
init-everyone n h = h

-- The last lamp's answer to an init.
last-answers : (t : Sent) (n i : ℕ) (b : Bool) (a : ℕ) (y : Lamp) → is_init t.message.number ≡ true → eqb (suc i) n ≡ b
    → answer_address t.message.number a ≡ true → Carries t.cast y a → Ending (Answers t n) i (last_answers b a t.message.number y)
last-answers t n i true a y init e from carries =
    answers t n i y a (report y) from (init-sized t.message.number init) (λ k s. carries)
    (λ plain. absurd (false≢true (sym plain ∙ init))) (λ j. eqb-true (suc i) n e)
last-answers t n i false a y init e from carries = tt

-- Each visit of an accepted telegram that ends with an answer: to one lamp with an address 001 to 3EF, and an init from there does not
-- run past 3EF.
visit-answers : (d : Defaults) (n : ℕ) (t : Sent)
    → ((a : Address) → t.cast ≡ One a → (1 ≤ a.0) × ((a.0 ≤ 0x3EF) × (is_init t.message.number ≡ true → a.0 + n ≤ 1008)))
    → (p : ℕ) (x : Lamp) → p < n → Ending (Answers t n) p (visiting d n t p x)
unfolding visiting
visit-answers d n t fits p x l = go (is_init k) refl t.cast fits
  where
    m : Message
    m = t.message

    k : ℕ
    k = t.message.number

    go : (b : Bool) → is_init k ≡ b → (cast : Cast)
        → ((a : Address) → cast ≡ One a → (1 ≤ a.0) × ((a.0 ≤ 0x3EF) × (is_init k ≡ true → a.0 + n ≤ 1008)))
        → Ending (Answers (record { message = t.message; cast = cast }) n) p (cond b (initialising n k cast) (reaching d m cast) p x)
    go true i Everyone f =
        last-answers (record { message = m; cast = Everyone }) n p (eqb (suc p) n) 0 (cond (eqb k 0x02) (with_ce x) x) i refl (init-everyone k i) refl
    go true i (One a) f =
        let r = f a refl in
        let h : a.0 + n ≤ 1008 = r.1.1 i in
        last-answers (record { message = m; cast = One a }) n p (eqb (suc p) n) (a.0 + p) (numbered_as k (a.0 + p) x) i refl
        (lamp-address k (a.0 + p) (omega arith) (omega arith)) refl
    go true i (Group g) f = tt
    go false i Everyone f = tt
    go false i (One a) f = found (eqb x.address.0 a.0) refl
      where
        found : (b : Bool) → eqb x.address.0 a.0 ≡ b
            → Ending (Answers (record { message = t.message; cast = One a }) n) p
            (cond b (ends (acted d m x) (done (answer_from a.0 k (answered d m x)))) (onward x))
        found true e =
            let r = f a refl in
            answers (record { message = m; cast = One a }) n p (acted d m x) a.0 (answered d m x)
            (lamp-address k a.0 r.0 r.1.0) (answered-sized d m x)
            (λ j s. acted-kept (λ (c : Address). a.0 ≡ c.0) d m x (λ z. absurd (reset-silent k j s z)) (sym (eqb-true _ _ e)))
            (λ plain. refl) (λ j. absurd (false≢true (sym i ∙ j)))
        found false e = tt
    go false i (Group g) f = tt

-- Behind the last lamp there is none.
none-behind : (xs : List Lamp) → lamp_in xs (length xs) ≡ refused 13
none-behind [] = refl
none-behind (x ∷ xs) = none-behind xs

-- Every answer is accepted ..
pub every-answer-accepted : EveryAnswerAccepted
unfolding EveryAnswerAccepted deliver
every-answer-accepted c s room x xs e =
    let d : Defaults = c.defaults in
    let ls : List Lamp = c.lamps in
    let g = accepted-sent d ls (dissecting s) room e in
    let t : Sent = g.0 in
    let w = done-delivery d ls t room (sym (ap (λ (o : Outcome Sent). (delivering d ls o room).outcome) g.1) ∙ e) in
    let v : delivering d ls (dissecting s) room ≡ walk (visiting d (length ls) t) 0 ls =
    ap (λ (o : Outcome Sent). delivering d ls o room) g.1 ∙ w.walked in
    go t g.1
    (subst (Ended (Answers t (length ls)) 0) (sym v)
    (walk-ended (Answers t (length ls)) (visiting d (length ls) t) (length ls)
    (visit-answers d (length ls) t
    (λ a h. let r = one-lamp s t a g.1 h in (r.0, (r.1, λ i. permitted-fits ls t a w.allowed i h))))
    0 ls (omega arith)))
  where
    count : length (deliver c s room).chain.lamps ≡ length c.lamps
    count = (deliver-keeps c s room).count

    go : (t : Sent) → dissecting s ≡ done t → Ended (Answers t (length c.lamps)) 0 (delivering c.defaults c.lamps (dissecting s) room)
        → AnswerAccepted s (lamp_in (deliver c s room).chain.lamps) (x ∷ xs)
    go t h (inl z) = absurd (silence (sym z ∙ e))
    go t h (inr r) =
        record {
          sent = t;
          dissected = h;
          place = r.0;
          lamp = r.1.0;
          stands = r.1.1.0;
          answer = (r.1.1.1 x xs e).0;
          last = λ i.
              let k : suc r.0 ≡ length (deliver c s room).chain.lamps = omega (arith, (r.1.1.1 x xs e).1 i, count) in
              ap (lamp_in (deliver c s room).chain.lamps) k ∙ none-behind (deliver c s room).chain.lamps;
        }

-- .. on memory too, whose lamps are read out ..
pub accepted-in : (mem s : List ℕ) (room x : ℕ) (xs : List ℕ) → (delivered mem s room).outcome ≡ done (x ∷ xs)
    → AnswerAccepted s (lamp_read (delivered mem s room).memory) (x ∷ xs)
unfolding EveryAnswerAccepted delivered
accepted-in mem s room x xs e = go (refuse (room_small room) 9 (chain_in mem)) refl e
  where
    go : (o : Outcome Chain) → refuse (room_small room) 9 (chain_in mem) ≡ o
        → (on_chain mem o (λ (c : Chain). deliver c s room)).outcome ≡ done (x ∷ xs)
        → AnswerAccepted s (lamp_read (on_chain mem o (λ (c : Chain). deliver c s room)).memory) (x ∷ xs)
    go (refused_for d) h k = absurd (never k)
    go (done c) h k =
        let a = every-answer-accepted c s room x xs k in
        let holds = kept-holds mem c _ (passed (room_small room) 9 (chain_in mem) h).1 (deliver-keeps c s room) in
        record {
          sent = a.sent;
          dissected = a.dissected;
          place = a.place;
          lamp = a.lamp;
          stands = holds_read _ _ holds a.place ∙ a.stands;
          answer = a.answer;
          last = λ i. holds_read _ _ holds (suc a.place) ∙ a.last i;
        }

-- .. and by the contract of `deliver`.
pub every-answer-accepted-in-memory : EveryAnswerAcceptedInMemory
unfolding EveryAnswerAcceptedInMemory
every-answer-accepted-in-memory mem k r x xs h e =
    subst (λ (left : List ℕ). AnswerAccepted k.telegram (lamp_read left) (x ∷ xs)) (sym h.memory)
    (accepted-in mem k.telegram (length k.room) x xs (sym (heard-call mem k r h) ∙ e))
