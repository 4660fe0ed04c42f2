-- Calls of `deliver` on memory that holds a chain: one call, a list of calls, and how such memory comes about.
-- Assumes nothing.
use Rattle.std.specs.Prelude.{Result}
use Rattle.telegram.specs.declared.Refusal.{Refusal}
use Rattle.command.specs.Commands.{Sent, dissecting}
use Prim.Native.Nat.{ℕ, ◌≤◌}
use mathlib.Core.Path.{◌≡◌, refl, sym, ap, ap₂, ◌∙◌, subst}
use mathlib.Core.Bool.{Bool, true, false}
use mathlib.Core.List.{List, [], ◌∷◌, map}
use lib.ListN.{length, length-replicate}
use borrow.Author.Tests.{ltb-false}
use Rattle.telegram.specs.Numbers.{Outcome, refused_for, refused, done, counted, leaves, outcome_of}
use Rattle.telegram.proofs.Outcomes.{never, passed, went_on}
use Rattle.telegram.proofs.Front.{front-take}
use Rattle.rules.specs.declared.Defaults.{Defaults}
use Rattle.rules.specs.Chain.{Chain, chain_right, fresh, making, room_small, delivering, Moved, deliver, lamp_in, is_init}
use Rattle.rules.specs.Lists.{run, Start}
use Rattle.rules.proofs.Starting.{made-fresh, first-only}
use Rattle.rules.proofs.Kept.{Keeps, deliver-keeps, run-keeps, made-right}
use Rattle.chain.specs.Record.{record_length, decode, hold, chain_in}
use Rattle.chain.specs.Memory.{Left, on_chain, delivered, held, made, lamp_read}
use Rattle.chain.specs.Calls.{Call, Returned, Delivers, Calls, last_memory, heard_as, heard, delivery_of, Started, Makes}
use Rattle.chain.proofs.Places.{length-lamps_in}
use Rattle.chain.proofs.Validity.{chain-in}
use Rattle.chain.proofs.Records.{hold-hold, hold-chain}

-- What a call leaves, of memory and of a chain.
abbrev pub calling : List ℕ → Call → Left
calling mem k = delivered mem k.telegram (length k.room)

abbrev pub onto : Chain → Call → Moved
onto c k = deliver c k.telegram (length k.room)

-- What a list of calls leaves: the memory, and what is heard of each.
pub record Went : Type 0 where
  pub memory : List ℕ
  pub outcomes : List (Outcome (List ℕ))

abbrev pub going : List ℕ → List Call → Went
going mem [] = record { memory = mem; outcomes = [] }
going mem (k ∷ ks) =
    let l = calling mem k in
    let w = going l.memory ks in
    record { memory = w.memory; outcomes = l.outcome ∷ w.outcomes }

-- What is heard of a call that keeps its contract is the outcome.
pub heard-call : (mem : List ℕ) (k : Call) (r : Returned) → Delivers mem k r → heard r ≡ (calling mem k).outcome
heard-call mem k r h = ap₂ heard_as h.answer h.room ∙ back (calling mem k).outcome
  where
    back : (o : Outcome (List ℕ)) → heard_as (counted o) (leaves o k.room) ≡ o
    back (refused_for d) = refl
    back (done s) = ap done (front-take s k.room)

-- So of a list: contracts leave one memory, and one outcome of each call.
pub calls-go : (mem : List ℕ) (ks : List Call) (rs : List Returned) → Calls mem ks rs
    → (last_memory mem rs ≡ (going mem ks).memory) × (map heard rs ≡ (going mem ks).outcomes)
calls-go mem [] [] h = (refl, refl)
calls-go mem [] (r ∷ rs) h = absurd h
calls-go mem (k ∷ ks) [] h = absurd h
calls-go mem (k ∷ ks) (r ∷ rs) h =
    let e = calls-go r.memory ks rs h.1 in
    let m : r.memory ≡ (calling mem k).memory = h.0.memory in (
      e.0 ∙ ap (λ (x : List ℕ). (going x ks).memory) m,
      ap₂ ◌∷◌ (heard-call mem k r h.0) (e.1 ∙ ap (λ (x : List ℕ). (going x ks).outcomes) m),
    )

module _ (k : Call) where
  -- A room under 12 bytes: 9, on whatever memory and whatever chain.
  module _ (small : room_small (length k.room) ≡ true) where
    pub small-in : (mem : List ℕ) → calling mem k ≡ record { memory = mem; outcome = refused 9 }
    unfolding delivered
    small-in mem = rw small

    small-onto : (c : Chain) → onto c k ≡ record { chain = c; outcome = refused 9 }
    unfolding deliver delivering
    small-onto c = rw small

  -- A room of 12 bytes: by what memory holds.
  pub enough-in : (mem : List ℕ) (o : Outcome Chain) → room_small (length k.room) ≡ false → chain_in mem ≡ o
      → calling mem k ≡ on_chain mem o (λ (c : Chain). onto c k)
  unfolding delivered
  enough-in mem o big e = rw (big, e)

-- Memory that holds a valid chain, and is its record and the bytes behind it.
pub record Holds (mem : List ℕ) (c : Chain) : Type 0 where
  pub chain : chain_in mem ≡ done c
  pub self : hold mem c ≡ mem

-- Memory that is long enough, with a valid chain written into it ..
hold_holds : (mem : List ℕ) (c : Chain) → record_length (length c.lamps) ≤ length mem → chain_right c ≡ true → Holds (hold mem c) c
hold_holds mem c h r = record { chain = hold-chain mem c h r; self = hold-hold mem c c refl }

-- .. and memory that had a chain, with what a call made of it.
pub kept-holds : (mem : List ℕ) (c e : Chain) → chain_in mem ≡ done c → Keeps c e → Holds (hold mem e) e
unfolding decode
kept-holds mem c e h k =
    let v = chain-in mem c h in
    let n = k.count ∙ ap (λ (x : Chain). length x.lamps) v.same ∙ length-lamps_in _ mem in
    hold_holds mem e (rw n v.room) (k.right v.right)

module _ (mem : List ℕ) (c : Chain) (h : Holds mem c) where
  -- The lamps of the chain are those read out.
  pub holds_read : (p : ℕ) → lamp_read mem p ≡ lamp_in c.lamps p
  unfolding lamp_read
  holds_read p = rw h.chain

  -- A call leaves the chain that the rules leave, in the same memory, with the outcome of the rules.
  pub holds-call : (k : Call) → calling mem k ≡ record { memory = hold mem (onto c k).chain; outcome = (onto c k).outcome }
  holds-call k = go (room_small (length k.room)) refl
    where
      go : (b : Bool) → room_small (length k.room) ≡ b
          → calling mem k ≡ record { memory = hold mem (onto c k).chain; outcome = (onto c k).outcome }
      go true e = small-in k e mem ∙ rw (small-onto k e c, h.self)
      go false e = enough-in k mem (done c) e h.chain

-- So does a list of calls.
holds-go : (mem : List ℕ) (c : Chain) → Holds mem c → (ks : List Call)
    → going mem ks ≡ record { memory = hold mem (run c (map delivery_of ks)).chain; outcomes = (run c (map delivery_of ks)).outcomes }
holds-go mem c h [] = rw h.self
holds-go mem c h (k ∷ ks) =
    let m : Moved = onto c k in
    let r = run m.chain (map delivery_of ks) in
    ap (λ (l : Left). record { memory = (going l.memory ks).memory; outcomes = l.outcome ∷ (going l.memory ks).outcomes })
    (holds-call mem c h k)
    ∙ ap (λ (w : Went). record { memory = w.memory; outcomes = m.outcome ∷ w.outcomes })
    (holds-go (hold mem m.chain) m.chain
    (kept-holds mem c m.chain h.chain (deliver-keeps c k.telegram (length k.room))) ks)
    ∙ ap (λ (x : List ℕ). record { memory = x; outcomes = m.outcome ∷ r.outcomes })
    (hold-hold mem m.chain r.chain (sym (run-keeps m.chain (map delivery_of ks)).count))

-- A list of calls by their contracts, on memory that holds a chain.
pub record Ran (mem : List ℕ) (c : Chain) (ks : List Call) (rs : List Returned) : Type 0 where
  pub memory : last_memory mem rs ≡ hold mem (run c (map delivery_of ks)).chain
  pub outcomes : map heard rs ≡ (run c (map delivery_of ks)).outcomes
  pub holds : Holds (last_memory mem rs) (run c (map delivery_of ks)).chain

pub calls-run : (mem : List ℕ) (c : Chain) → Holds mem c → (ks : List Call) (rs : List Returned) → Calls mem ks rs → Ran mem c ks rs
calls-run mem c h ks rs q =
    let g = calls-go mem ks rs q in
    let e = holds-go mem c h ks in
    let m = g.0 ∙ ap (λ (w : Went). w.memory) e in
    record {
      memory = m;
      outcomes = g.1 ∙ ap (λ (w : Went). w.outcomes) e;
      holds = rw m (kept-holds mem c _ h.chain (run-keeps c (map delivery_of ks)));
    }

-- Memory of a making that was done holds the made chain.
pub made_holds : (mem : List ℕ) (n : ℕ) (d : Defaults) (c : Chain) → made mem n d ≡ done c → (making n d ≡ done c) × Holds (hold mem c) c
unfolding made fresh
made_holds mem n d c e =
    let g = went_on (making n d) _ e in
    let p = passed _ 9 _ g.1.1 in
    let m : making n d ≡ done c = g.1.0 ∙ p.1 in
    let count : length c.lamps ≡ n =
    ap (λ (x : Chain). length x.lamps) (sym (made-fresh n d c m).1.1) ∙ length-replicate n _ in
    (m, hold_holds mem c (rw count (ltb-false _ _ p.0)) (made-right n d c m))

-- A making that was done and then a call that was done: the made chain, that memory holds it, and what the call answered.
pub record Begun (n : ℕ) (d : Defaults) (fresh : List ℕ) (k : Call) : Type 0 where
  pub chain : Chain
  pub making-done : making n d ≡ done chain
  pub holds : Holds fresh chain
  pub answer : List ℕ
  pub answers : (onto chain k).outcome ≡ done answer

pub begun : (n : ℕ) (d : Defaults) (before : List ℕ) (x : Result ℕ Refusal) (fresh : List ℕ) → Makes before n d x fresh → outcome_of x ≡ done 0
    → (k : Call) (r : Returned) → Delivers fresh k r → {count : ℕ} → outcome_of r.answer ≡ done count → Begun n d fresh k
begun n d before x fresh makes made-done k r delivers accepted =
    let g = went_on (made before n d) _ (sym makes.answered ∙ made-done) in
    let c : Chain = g.0 in
    let t = made_holds before n d c g.1.0 in
    let h : Holds fresh c = subst (λ (m : List ℕ). Holds m c) (sym (makes.memory ∙ ap (held before) g.1.0)) t.1 in
    let e = holds-call fresh c h k in
    let o = answered (onto c k).outcome (ap (λ (l : Left). counted l.outcome) (sym e) ∙ sym delivers.answer ∙ accepted) in
    record { chain = c; making-done = t.0; holds = h; answer = o.0; answers = o.1 }
  where
    answered : (o : Outcome (List ℕ)) {i : ℕ} → counted o ≡ done i → (t : List ℕ) × (o ≡ done t)
    answered (refused_for d) e = absurd (never e)
    answered (done t) e = (t, refl)

-- Started memory holds a chain that the rules started.
pub started-holds : (n : ℕ) (d : Defaults) (k a : ℕ) (mem : List ℕ) → Started n d k a mem → (c : Chain) × (Holds mem c × Start n d k a c)
started-holds n d k a mem s =
    let b = begun n d s.before s.make_answer s.fresh s.makes s.made s.call s.returned s.delivers s.accepted in
    let c : Chain = b.chain in
    let m : Moved = onto c s.call in
    let e = holds-call s.fresh c b.holds s.call in (
      m.chain,
      (
        subst (λ (x : List ℕ). Holds x m.chain) (ap (λ (l : Left). l.memory) (sym e) ∙ sym s.delivers.memory ∙ s.left)
            (kept-holds s.fresh c m.chain b.holds.chain (deliver-keeps c s.call.telegram (length s.call.room))),
        record {
          made = c;
          making-done = b.making-done;
          telegram = s.call.telegram;
          room = length s.call.room;
          sent = s.sent;
          dissected = s.dissected;
          kind = s.kind;
          init = s.init;
          first = s.first;
          answer = b.answer;
          accepted = b.answers;
          left = refl;
        },
      ),
    )

-- Any init that memory with a fresh chain accepts, of whatever cast, starts it: `Started` misses none.
pub any-start-in-memory : (n : ℕ) (d : Defaults) (before : List ℕ) (x : Result ℕ Refusal) (fresh : List ℕ) → Makes before n d x fresh
    → outcome_of x ≡ done 0 → (k : Call) (t : Sent) → dissecting k.telegram ≡ done t → is_init t.message.number ≡ true
    → (r : Returned) → Delivers fresh k r → (count : ℕ) → outcome_of r.answer ≡ done count
    → (a : ℕ) × Started n d t.message.number a r.memory
any-start-in-memory n d before x fresh makes made-done k t dissected init r delivers count accepted =
    let b = begun n d before x fresh makes made-done k r delivers accepted in
    let f = first-only n d b.chain k.telegram t (length k.room) b.making-done dissected init b.answers in (
      f.0,
      record {
        before = before;
        make_answer = x;
        fresh = fresh;
        makes = makes;
        made = made-done;
        call = k;
        sent = t;
        dissected = dissected;
        kind = refl;
        init = init;
        first = f.1;
        returned = r;
        delivers = delivers;
        count = count;
        accepted = accepted;
        left = refl;
      },
    )
