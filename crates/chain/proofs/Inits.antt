-- Init and the lamps in memory: whether it is permitted, and what it does, exit by exit, as the code goes.
-- Assumes nothing.
use mathlib.Core.Path.{◌≡◌, refl, sym, ap, ap₂, ◌∙◌}
use mathlib.Core.Logic.{◌≢◌}
use mathlib.Core.Bool.{Bool, true, false, cond}
use mathlib.Core.List.{List}
use Prim.Native.Nat.{ℕ, ◌+◌, ◌-◌, ◌≤◌, ◌<◌}
use native.Mathlib.Omega.{arith}
use lib.Dec.{eqb, ltb}
use lib.ListN.{length, get_or}
use borrow.Author.Tests.{lt-ltb, le-ltb, ne_eqb}
use Rattle.telegram.specs.Numbers.{Reason, Outcome, refused_for, refused, done, refuse, counted, front}
use Rattle.telegram.specs.Telegram.{Bytes}
use Rattle.telegram.specs.declared.Address.{Address}
use Rattle.telegram.proofs.Outcomes.{never, refused-one, passed}
use Rattle.table.specs.declared.Cast.{Cast}
use Rattle.table.specs.declared.Cast.TheVariants.{Everyone, One, Group}
use Rattle.command.specs.Commands.{Sent}
use Rattle.rules.specs.declared.Lamp.{Lamp}
use Rattle.rules.specs.Lamp.{report, numbered_as, with_ce}
use Rattle.rules.specs.Chain.{with_lamps, Walked, is_init, visiting, permitting_init, permitting, any_unaddressed, responding, answer_from}
use Rattle.chain.specs.Record.{count_of, lamps_in, decode, hold}
use Rattle.chain.specs.Places.{lamp_at, sweep}
use Rattle.chain.specs.Helpers.{responded_in, reached_in, walked_in, init_of, sent_in}
use Rattle.chain.proofs.Places.{length-lamps_in}
use Rattle.chain.proofs.Sweeps.{each_from, length-each}
use Rattle.chain.proofs.Validity.{Valid}
use Rattle.chain.proofs.Records.{hold-each, hold_at}
use Rattle.chain.proofs.Strides.{walk-init, walk-init-all}
use Rattle.chain.proofs.Responding.{Walks, walks-done, walks-refused, held_same}

-- The walk of a command that is no init goes by its cast ..
pub walked-plain : (mem : List ℕ) (t : Sent) → is_init t.message.number ≡ false → walked_in mem t ≡ reached_in mem t.message t.cast
unfolding walked_in reached_in visiting
walked-plain mem t h = simp h

-- .. and that of an init by its number and its cast alone.
pub walked-init : (mem : List ℕ) (t : Sent) → is_init t.message.number ≡ true → walked_in mem t ≡ walked_in mem (init_of t.message.number t.cast)
unfolding walked_in visiting
walked-init mem t h = simp h

-- What is permitted: whatever is no init, and an init by its cast.
module _ (xs : List Lamp) (n : ℕ) (p : List ℕ) (cast : Cast) where
  pub permit-plain : is_init n ≡ false → done (sent_in n p cast) ≡ permitting xs (sent_in n p cast)
  unfolding permitting
  permit-plain h = simp h

  pub permit-init : is_init n ≡ true → permitting_init xs (sent_in n p cast) cast ≡ permitting xs (sent_in n p cast)
  unfolding permitting
  permit-init h = simp h

-- It does not matter which bytes an init carries.
pub permit-alike : (xs : List Lamp) (n : ℕ) (p : List ℕ) (cast : Cast) → is_init n ≡ true → permitting xs (sent_in n p cast) ≡ done (sent_in n p cast)
    → permitting xs (init_of n cast) ≡ done (init_of n cast)
unfolding permitting
permit-alike xs n p Everyone i h =
    let e = (passed (any_unaddressed xs) 7 _ (permit-init xs n p Everyone i ∙ h)).0 in
    simp (i, e)
permit-alike xs n p (One a) i h =
    let e = (passed (ltb 0x3EF (a.0 + length xs - 1)) 12 _ (permit-init xs n p (One a) i ∙ h)).0 in
    simp (i, e)
permit-alike xs n p (Group g) i h = absurd (never (permit-init xs n p (Group g) i ∙ h))

-- No init for a group is.
pub permit-group : (xs : List Lamp) (n g : ℕ) → is_init n ≡ true → permitting xs (init_of n (Group g)) ≡ done (init_of n (Group g)) → ⊥
unfolding permitting
permit-group xs n g i h = never (simp i at h)

-- What is not permitted is refused with 7 or 12, never with 5.
pub permit-number : (xs : List Lamp) (t : Sent) {r : Reason} → permitting xs t ≡ refused_for r → r.number ≢ 5
unfolding permitting
permit-number xs t {r} h five = go (is_init t.message.number) t.cast h
  where
    ten : (b : Bool) (n : ℕ) → n ≢ 5 → refuse b n (done t) ≡ refused_for r → ⊥
    ten true n ne e = ne (ap (λ (x : Reason). x.number) (refused-one e) ∙ five)
    ten false n ne e = never (sym e)

    go : (b : Bool) (cast : Cast) → cond b (permitting_init xs t cast) (done t) ≡ refused_for r → ⊥
    go true Everyone e = ten (any_unaddressed xs) 7 (omega arith) e
    go true (One a) e = ten (ltb 0x3EF (a.0 + length xs - 1)) 12 (omega arith) e
    go true (Group g) e = ten true 7 (omega arith) e
    go false cast e = never (sym e)

module _ (mem : List ℕ) (b : Bytes mem) (v : Valid mem (decode mem)) where
  -- What is permitted walks; what is not is refused, and changes nothing.
  pub respond-granted : (t : Sent) → permitting (decode mem).lamps t ≡ done t → responded_in mem t ≡ walked_in mem t
  unfolding responded_in walked_in responding
  respond-granted t h = simp h

  pub respond-refused : (t : Sent) (room : List ℕ) {r : Reason} → permitting (decode mem).lamps t ≡ refused_for r
      → Walks mem room (responded_in mem t) (refused_for r) mem room
  unfolding responded_in responding
  respond-refused t room {r} h =
      let n = ne_eqb r.number 5 (permit-number (decode mem).lamps t h) in
      walks-refused mem room (simp (h, n)) (held_same mem b v)

  -- An init from an address: past 3EF, and not.
  module _ (a : Address) {n : ℕ} (e : n ≡ count_of mem) (t : Sent) where
    pub permit-past : 0x3EF < a.0 + n - 1 → refused 12 ≡ permitting_init (decode mem).lamps t (One a)
    unfolding decode
    permit-past h = rw (length-lamps_in, ← e, lt-ltb 0x3EF (a.0 + n - 1) h)

    pub permit-fits : a.0 + n - 1 ≤ 0x3EF → done t ≡ permitting_init (decode mem).lamps t (One a)
    unfolding decode
    permit-fits h = rw (length-lamps_in, ← e, le-ltb 0x3EF (a.0 + n - 1) h)

  -- An init at 000, as a test of all lamps says.
  pub permit-tested : {n : ℕ} {r : Bool} → n ≡ count_of mem → r ≡ any_unaddressed (lamps_in n mem) → (t : Sent) (q : Bool) → r ≡ q
      → refuse q 7 (done t) ≡ permitting_init (decode mem).lamps t Everyone
  unfolding decode
  permit-tested e any t q s = ap (λ (x : Bool). refuse x 7 (done t)) (sym s ∙ any ∙ ap (λ (m : ℕ). any_unaddressed (lamps_in m mem)) e)

  module _ (k : ℕ) (i : is_init k ≡ true) where
    some : 0 < length (lamps_in (count_of mem) mem)
    some = rw length-lamps_in v.some

    -- Each lamp by a rule, and the answer of the last one of n.
    last-answers : (room : List ℕ) {w : Walked} (rule : ℕ → Lamp → Lamp) {c c' n : ℕ} → n ≡ count_of mem → c' ≡ c
        → w ≡ record {
          lamps = each_from rule 0 (lamps_in (count_of mem) mem);
          outcome =
              done (answer_from c k
              (report (get_or (each_from rule 0 (lamps_in (count_of mem) mem)) (length (lamps_in (count_of mem) mem) - 1) (lamp_at mem 0))));
        }
        → {mem' room' : List ℕ} {r : Outcome ℕ} → mem' ≡ sweep rule 0 n mem
        → r ≡ counted (done (answer_from c' k (report (lamp_at mem' (n - 1))))) → room' ≡ front (answer_from c' k (report (lamp_at mem' (n - 1)))) room
        → Walks mem room w r mem' room'
    last-answers room rule {n = n} en ec ew {mem'} em er eo =
        let xs = lamps_in (count_of mem) mem in
        let ys = each_from rule 0 xs in
        let l : length xs ≡ n = length-lamps_in (count_of mem) mem ∙ sym en in
        let lt : n - 1 < length ys = rw length-each (omega (arith, l, en, v.some)) in
        let f : mem' ≡ hold mem (with_lamps (decode mem) ys) = em ∙ ap (λ (q : ℕ). sweep rule 0 q mem) en ∙ hold-each mem b v.room rule in
        let g : lamp_at mem' (n - 1) ≡ get_or ys (length xs - 1) (lamp_at mem 0) =
        ap (λ (m : List ℕ). lamp_at m (n - 1)) f ∙ hold_at mem (with_lamps (decode mem) ys) (n - 1) (lamp_at mem 0) lt
        ∙ ap (λ (q : ℕ). get_or ys (q - 1) (lamp_at mem 0)) (sym l) in
        let s = ap₂ (λ (a : ℕ) (x : Lamp). answer_from a k (report x)) ec g in
        walks-done mem room ew (er ∙ ap (λ (q : List ℕ). counted (done q)) s) f (eo ∙ ap (λ (q : List ℕ). front q room) s)

    -- Init from an address: each lamp is numbered, and the last one answers.
    pub init-numbers : (a : Address) (room : List ℕ) {n : ℕ} → n ≡ count_of mem → {mem' room' : List ℕ} {r : Outcome ℕ}
        → mem' ≡ sweep (λ (p : ℕ) (l : Lamp). numbered_as k (a.0 + p) l) 0 n mem
        → r ≡ counted (done (answer_from (a.0 + n - 1) k (report (lamp_at mem' (n - 1)))))
        → room' ≡ front (answer_from (a.0 + n - 1) k (report (lamp_at mem' (n - 1)))) room
        → Walks mem room (walked_in mem (init_of k (One a))) r mem' room'
    unfolding walked_in visiting decode
    init-numbers a room {n} en em er eo =
        let xs = lamps_in (count_of mem) mem in
        let l : length xs ≡ n = length-lamps_in (count_of mem) mem ∙ sym en in
        let c : a.0 + n - 1 ≡ a.0 + (length xs - 1) = omega (arith, l, en, v.some) in
        last-answers room (λ (p : ℕ) (x : Lamp). numbered_as k (a.0 + p) x) en c (simp i (walk-init k (lamp_at mem 0) xs some a)) em er eo

    -- Init at 000: INITBIDIR sets CE on each lamp, and the last one answers.
    pub init-marks : (room : List ℕ) {n : ℕ} → n ≡ count_of mem → {mem' room' : List ℕ} {r : Outcome ℕ}
        → mem' ≡ sweep (λ (p : ℕ) (l : Lamp). cond (eqb k 0x02) (with_ce l) l) 0 n mem
        → r ≡ counted (done (answer_from 0 k (report (lamp_at mem' (n - 1))))) → room' ≡ front (answer_from 0 k (report (lamp_at mem' (n - 1)))) room
        → Walks mem room (walked_in mem (init_of k Everyone)) r mem' room'
    unfolding walked_in visiting decode
    init-marks room {n} en em er eo =
        let xs = lamps_in (count_of mem) mem in
        last-answers room (λ (p : ℕ) (l : Lamp). cond (eqb k 0x02) (with_ce l) l) en refl (simp i (walk-init-all k (lamp_at mem 0) xs some)) em er eo
