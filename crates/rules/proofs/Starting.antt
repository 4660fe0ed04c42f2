-- A fresh chain after an accepted init: from where it is numbered, and which lamps it has.
-- Assumes nothing.
use Prim.Native.Nat.{ℕ, zero, suc, ◌+◌, ◌-◌, ◌≤◌, ◌<◌}
use native.Mathlib.Nat.{not-suc-le-zero}
use native.Mathlib.Omega.{arith}
use mathlib.Core.Path.{◌≡◌, refl, sym, ap, ap₂, ◌∙◌, subst}
use mathlib.Core.Logic.{inl}
use mathlib.Core.Bool.{Bool, true, false, ◌||◌, false≢true}
use mathlib.Core.List.{List, [], ◌∷◌}
use lib.Dec.{eqb, leb}
use lib.ListN.{length, replicate, length-replicate}
use borrow.Author.Tests.{eq-eqb, ne_eqb, le-leb, le-ltb, eqb-true, leb-true, not-false}
use Rattle.telegram.specs.Numbers.{done}
use Rattle.telegram.specs.Telegram.{telegram_of}
use Rattle.telegram.specs.declared.Address.{Address}
use Rattle.telegram.proofs.Outcomes.{never, done-one, passed}
use Rattle.telegram.proofs.Building.{Sendable, build-done}
use Rattle.table.specs.Casts.{address_of, cast_in_range}
use Rattle.table.specs.Table.{row_of, acknowledged, plain_number}
use Rattle.table.specs.declared.Cast.{Cast}
use Rattle.table.specs.declared.Cast.TheVariants.{Everyone, One, Group}
use Rattle.command.specs.Fields.{layout_of}
use Rattle.command.specs.Commands.{Message, Sent, message_of, payload_of, dissecting}
use Rattle.command.specs.declared.Command.{Command}
use Rattle.command.specs.declared.Command.TheVariants.{InitBidir, InitLoop}
use Rattle.table.proofs.Both.{and_left, and_right}
use Rattle.table.proofs.Destinations.{address-le}
use Rattle.command.proofs.Commanding.{Fit, command-sent}
use Rattle.command.proofs.Sound.{sound, command-short}
use Rattle.command.proofs.RoundTrip.{built-dissects, one-lamp}
use Rattle.rules.specs.declared.Defaults.{Defaults}
use Rattle.rules.specs.declared.Lamp.{Lamp}
use Rattle.rules.specs.Lamp.{blank, report, numbered_as}
use Rattle.rules.specs.Chain.{Chain, count_right, fresh, making, Walked, walk, answer_from, is_init, initialising, visiting, permitting_init, permitting, delivering, Moved, moved, deliver, lamp_in}
use Rattle.rules.specs.Lists.{Start}
use Rattle.rules.proofs.Walks.{Numbered}
use Rattle.rules.proofs.Deliveries.{permitted-fits, permitted-walks, delivered}

-- Lamps like x, m of them from place p on, numbered from a by an init of the kind k.
abbrev pub initialised : ℕ → ℕ → Lamp → ℕ → ℕ → List Lamp
initialised k a x p zero = []
initialised k a x p (suc m) = numbered_as k (a + p) x ∷ initialised k a x (suc p) m

module _ (k a : ℕ) (x : Lamp) where
  -- There are m of them ..
  pub initialised-length : (p m : ℕ) → length (initialised k a x p m) ≡ m
  initialised-length p zero = refl
  initialised-length p (suc m) = ap suc (initialised-length (suc p) m)

  -- .. numbered from a ..
  pub initialised-numbered : (p m : ℕ) → Numbered a p (initialised k a x p m)
  initialised-numbered p zero = tt
  initialised-numbered p (suc m) = (inl refl, initialised-numbered (suc p) m)

  -- .. and at place q is x with the address of that place.
  pub initialised-at : (p m q : ℕ) → q < m → lamp_in (initialised k a x p m) q ≡ done (numbered_as k (a + (p + q)) x)
  initialised-at p zero q h = absurd (not-suc-le-zero h)
  initialised-at p (suc m) zero h = ap (λ (b : ℕ). done (numbered_as k b x)) (omega arith)
  initialised-at p (suc m) (suc q) h =
      initialised-at (suc p) m q (omega arith) ∙ ap (λ (b : ℕ). done (numbered_as k b x)) (omega arith)

  -- An init from a, along lamps that are all alike.
  init-walk : (n p m : ℕ) → p + m ≡ n
      → (walk (initialising n k (One (record { 0 = a }))) p (replicate m x)).lamps ≡ initialised k a x p m
  init-walk n p zero e = refl
  init-walk n p (suc zero) e = rw (eq-eqb (suc p) n (omega arith))
  init-walk n p (suc (suc m)) e =
      rw (ne_eqb (suc p) n (omega arith)) (ap (numbered_as k (a + p) x ∷◌) (init-walk n (suc p) (suc m) (omega arith)))

-- The making of a chain that is done: 1 to 1007 lamps, and they are fresh.
pub made-fresh : (n : ℕ) (d : Defaults) (c : Chain) → making n d ≡ done c → (1 ≤ n) × ((n ≤ 1007) × (fresh n d ≡ c))
made-fresh n d c e =
    let p = passed _ _ _ e in
    let right : count_right n ≡ true = not-false _ p.0 in
    (leb-true 1 n (and_left (leb 1 n) _ right), (leb-true n 1007 (and_right (leb 1 n) _ right), done-one p.1))

-- A telegram that the dissector accepted, delivered to it.
came : (n : ℕ) (d : Defaults) (c : Chain) (s : List ℕ) (t : Sent) (room : ℕ) → making n d ≡ done c → dissecting s ≡ done t
    → deliver c s room ≡ moved (fresh n d) (delivering d (replicate n (blank d 0)) (done t) room)
unfolding deliver fresh
came n d c s t room m h =
    subst (λ (x : Chain). deliver x s room ≡ moved (fresh n d) (delivering d (replicate n (blank d 0)) (done t) room))
    (made-fresh n d c m).1.1 (rw h)

-- What is known of a started chain.
pub record Started (n : ℕ) (d : Defaults) (k a room : ℕ) (c : Chain) : Type 0 where
  pub enough : 12 ≤ room
  pub low : 1 ≤ a
  pub high : a + n ≤ 1008
  pub defaults : c.defaults ≡ d
  pub lamps : c.lamps ≡ initialised k a (blank d 0) 0 n

-- What an accepted init says of its room and first address, and what it leaves.
pub started : (n : ℕ) (d : Defaults) (k a : ℕ) (c : Chain) (s : Start n d k a c) → Started n d k a s.room c
unfolding fresh visiting
started n d k a c s =
    let made : List Lamp = replicate n (blank d 0) in
    let t : Sent = s.sent in
    let e = came n d s.made s.telegram t s.room s.making-done s.dissected in
    let left = sym (ap (λ (m : Moved). m.chain) e) ∙ s.left in
    let g = delivered d made t s.room (sym (ap (λ (m : Moved). m.outcome) e) ∙ s.accepted) in
    let init : is_init t.message.number ≡ true = rw s.kind s.init in
    let count : length made ≡ n = length-replicate n (blank d 0) in
    record {
      enough = g.enough;
      low = (one-lamp s.telegram t (record { 0 = a }) s.dissected s.first).0;
      high = omega (arith, permitted-fits made t (record { 0 = a }) g.allowed init s.first);
      defaults = sym (ap (λ (x : Chain). x.defaults) left);
      lamps =
          sym (ap (λ (x : Chain). x.lamps) left)
          ∙ simp (s.kind, s.init, s.first) at (ap (λ (v : Walked). v.lamps) g.walked)
          ∙ init-walk k a (blank d 0) (length made) 0 n (omega arith);
    }

-- Two chains started alike are the same.
pub same_start : (n : ℕ) (d : Defaults) (k a : ℕ) (c e : Chain) → Start n d k a c → Start n d k a e → c ≡ e
same_start n d k a c e s t =
    let u = started n d k a c s in
    let v = started n d k a e t in
    ap₂ (λ (x : Defaults) (xs : List Lamp). record { defaults = x; lamps = xs }) (u.defaults ∙ sym v.defaults)
    (u.lamps ∙ sym v.lamps)

-- A fresh chain accepts an init only from a first address.
pub first-only : (n : ℕ) (d : Defaults) (c : Chain) (s : List ℕ) (t : Sent) (room : ℕ) {answer : List ℕ} → making n d ≡ done c
    → dissecting s ≡ done t → is_init t.message.number ≡ true → (deliver c s room).outcome ≡ done answer
    → (a : ℕ) × (t.cast ≡ One (record { 0 = a }))
unfolding permitting
first-only n d c s t room m h init e =
    let q = came n d c s t room m h in
    let g = delivered d (replicate n (blank d 0)) t room (sym (ap (λ (v : Moved). v.outcome) q) ∙ e) in
    go n (made-fresh n d c m).0 t.cast (simp init at g.allowed)
  where
    go : (n : ℕ) → 1 ≤ n → (cast : Cast) → permitting_init (replicate n (blank d 0)) t cast ≡ done t
        → (a : ℕ) × (cast ≡ One (record { 0 = a }))
    go zero some cast k = absurd (not-suc-le-zero some)
    go (suc n) some Everyone k = absurd (never k)
    go (suc n) some (One a) k = (a.0, refl)
    go (suc n) some (Group g) k = absurd (never k)

-- So every accepted init of a fresh chain is a start.
pub any-start : (n : ℕ) (d : Defaults) (c : Chain) (s : List ℕ) (t : Sent) (room : ℕ) {answer : List ℕ} → making n d ≡ done c
    → dissecting s ≡ done t → is_init t.message.number ≡ true → (deliver c s room).outcome ≡ done answer
    → (a : ℕ) × Start n d t.message.number a (deliver c s room).chain
any-start n d c s t room {answer} m h init e =
    let f = first-only n d c s t room m h init e in (
      f.0,
      record {
        made = c;
        making-done = m;
        telegram = s;
        room = room;
        sent = t;
        dissected = h;
        kind = refl;
        init = init;
        first = f.1;
        answer = answer;
        accepted = e;
        left = refl;
      },
    )

-- The telegram of a command that fits its cast dissects back.
fit-dissects : (c : Command) (cast : Cast) → Fit (message_of c) cast
    → dissecting (telegram_of (address_of cast) (message_of c).number (payload_of (message_of c)))
    ≡ done (record { message = message_of c; cast = cast })
fit-dissects c cast f =
    let m : Message = message_of c in
    let z = sound c in
    let v : Sendable (address_of cast) m.number (payload_of m) =
    record { address = address-le cast f.range; command = z.number; size = z.length-listed } in
    built-dissects c cast 12 _
    (sym (command-sent m cast 12 f v refl refl refl)
    ∙ build-done (address_of cast) m.number (payload_of m) 12 v (omega (arith, command-short c)))

-- An init of either kind fits a first address.
init-fits : (k : ℕ) (a : Address) → is_init k ≡ true → cast_in_range (One a) ≡ true
    → (c : Command) × (((message_of c).number ≡ k) × Fit (message_of c) (One a))
unfolding is_init layout_of row_of plain_number acknowledged
init-fits k a init r = go (eqb k 0x02) (eqb k 0x03) refl refl init
  where
    go : (b₂ b₃ : Bool) → eqb k 0x02 ≡ b₂ → eqb k 0x03 ≡ b₃ → (b₂ || b₃) ≡ true
        → (c : Command) × (((message_of c).number ≡ k) × Fit (message_of c) (One a))
    go true b₃ e₂ e₃ h = (InitBidir, (sym (eqb-true k 0x02 e₂), record { range = r; duties = refl; lists = refl }))
    go false true e₂ e₃ h = (InitLoop, (sym (eqb-true k 0x03 e₃), record { range = r; duties = refl; lists = refl }))
    go false false e₂ e₃ h = absurd (false≢true h)

-- The lone chain of each place can be made and numbered.
pub lone-start : (n : ℕ) (d : Defaults) (k a p : ℕ) (c : Chain) → Start n d k a c → p < n → (c₁ : Chain) × Start 1 d k (a + p) c₁
unfolding fresh permitting visiting
lone-start n d k a p c s h =
    let u = started n d k a c s in
    let b : Address = record { 0 = a + p } in
    let range : cast_in_range (One b) ≡ true = simp (le-leb 1 (a + p) (omega arith), le-leb (a + p) 0x3EF (omega arith)) in
    let f = init-fits k b s.init range in
    let m : Message = message_of f.0 in
    let t : Sent = record { message = m; cast = One b } in
    let bytes : List ℕ = telegram_of (a + p) m.number (payload_of m) in
    let dissected : dissecting bytes ≡ done t = fit-dissects f.0 (One b) f.1.1 in
    let init : is_init m.number ≡ true = rw f.1.0 s.init in
    let allowed : permitting (blank d 0 ∷ []) t ≡ done t = simp (init, le-ltb 0x3EF (a + p + 1 - 1) (omega arith)) in
    let walked = permitted-walks d (blank d 0 ∷ []) 12 t refl allowed in (
      (deliver (fresh 1 d) bytes 12).chain,
      record {
        made = fresh 1 d;
        making-done = refl;
        telegram = bytes;
        room = 12;
        sent = t;
        dissected = dissected;
        kind = f.1.0;
        init = s.init;
        first = refl;
        answer = answer_from (a + p + 0) m.number (report (numbered_as m.number (a + p + 0) (blank d 0)));
        accepted = ap (λ (v : Moved). v.outcome) (came 1 d (fresh 1 d) bytes t 12 refl dissected) ∙ ap (λ (w : Walked). w.outcome) walked ∙ simp init;
        left = refl;
      },
    )
