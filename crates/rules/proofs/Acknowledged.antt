-- Acknowledged commands: what they make of a lamp and of a chain, and what the lamp answers.
-- Assumes nothing.
use mathlib.Core.Path.{◌≡◌, refl, sym, ap, ap₂, ◌∙◌, subst}
use mathlib.Core.Bool.{Bool, true, false, cond, not, ◌||◌}
use mathlib.Core.List.{List, [], ◌∷◌}
use Prim.Native.Nat.{ℕ, suc}
use lib.Dec.{eqb, leb}
use Rattle.telegram.specs.Numbers.{Outcome, refused, done}
use Rattle.telegram.proofs.Outcomes.{either, done-one}
use Rattle.table.specs.Table.{row_of, acknowledged, plain_number, cast_listed}
use Rattle.table.specs.declared.Row.{Row}
use Rattle.table.specs.declared.Cast.{Cast}
use Rattle.table.specs.declared.Cast.TheVariants.{Everyone, One, Group}
use Rattle.table.proofs.Acknowledged.{by-acknowledged, plain-plain, plain-low, acknowledged-row, one-listed}
use Rattle.command.specs.Commands.{Message, numbered, Sent}
use Rattle.command.proofs.Naming.{named, dissected}
use Rattle.rules.specs.declared.Defaults.{Defaults}
use Rattle.rules.specs.declared.Lamp.{Lamp}
use Rattle.rules.specs.declared.State.{State}
use Rattle.rules.specs.declared.State.TheVariants.{Uninitialized, Sleep, Active, DeepSleep}
use Rattle.rules.specs.Lamp.{with_state, uninitialized, obeys, changed_plain, plain_form, told_plain, acted, answered, member}
use Rattle.rules.specs.Chain.{with_lamps, Step, onward, ends, Walked, stepped, walk, answer_from, reaching, is_init, room_small, delivering, deliver}
use Rattle.rules.specs.Lists.{OneLamp}
use Rattle.rules.specs.Acknowledged.{read_temp_status, ChangesAsPlain, LeavesAsPlain, KeepsFlags, AnswersAfterwards, PassedBy, MayStandInLists}
use Rattle.rules.proofs.Deliveries.{plain-walks}

-- An acknowledged command makes of a lamp what its plain form does ..
as_plain : (d : Defaults) (m : Message) (l : Lamp) → acted d m l ≡ acted d (plain_form m) l
unfolding acted changed_plain
as_plain d m l =
    ap₂ (λ (low : Bool) (n : ℕ). cond (not (uninitialized l.state) || low) (changed_plain d (numbered n m.fields) l) l)
    (sym (plain-low m.number)) (sym (plain-plain m.number))

pub changes-as-plain : ChangesAsPlain
unfolding ChangesAsPlain
changes-as-plain = as_plain

-- .. so it makes the same steps, which go on or end alike and leave the same lamp ..
abbrev Alike : Step → Step → Type 0
Alike (onward x) (onward y) = x ≡ y
Alike (onward x) (ends y q) = ⊥
Alike (ends x o) (onward y) = ⊥
Alike (ends x o) (ends y q) = x ≡ y

reaching-alike : (d : Defaults) (m : Message) (cast : Cast) (p : ℕ) (x : Lamp) → Alike (reaching d m cast p x) (reaching d (plain_form m) cast p x)
reaching-alike d m Everyone p x = as_plain d m x
reaching-alike d m (One a) p x = go (eqb x.address.0 a.0)
  where
    answer : Message → Outcome (List ℕ)
    answer k = done (answer_from a.0 k.number (answered d k x))

    go : (b : Bool) → Alike (cond b (ends (acted d m x) (answer m)) (onward x)) (cond b (ends (acted d (plain_form m) x) (answer (plain_form m))) (onward x))
    go true = as_plain d m x
    go false = refl
reaching-alike d m (Group g) p x = ap (λ (y : Lamp). cond (member g x) y x) (as_plain d m x)

-- .. and leaves the same lamps.
stepped-alike : (u v : Step) (xs : List Lamp) (w z : Walked) → Alike u v → w.lamps ≡ z.lamps
    → (stepped u xs w).lamps ≡ (stepped v xs z).lamps
stepped-alike (onward x) (onward y) xs w z e f = ap₂ ◌∷◌ e f
stepped-alike (onward x) (ends y q) xs w z e f = absurd e
stepped-alike (ends x o) (onward y) xs w z e f = absurd e
stepped-alike (ends x o) (ends y q) xs w z e f = ap (λ (l : Lamp). l ∷ xs) e

walk-alike : (d : Defaults) (m : Message) (cast : Cast) (p : ℕ) (xs : List Lamp)
    → (walk (reaching d m cast) p xs).lamps ≡ (walk (reaching d (plain_form m) cast) p xs).lamps
walk-alike d m cast p [] = refl
walk-alike d m cast p (x ∷ xs) =
    stepped-alike (reaching d m cast p x) (reaching d (plain_form m) cast p x) xs _ _ (reaching-alike d m cast p x)
    (walk-alike d m cast (suc p) xs)

-- Neither is an init.
plain-no-init : (n : ℕ) → acknowledged n ≡ true → (is_init n ≡ false) × (is_init (plain_number n) ≡ false)
unfolding is_init plain_number acknowledged
plain-no-init =
    by-acknowledged (λ (n : ℕ). (is_init n ≡ false) × (is_init (plain_number n) ≡ false))
    (refl, refl) (refl, refl) (refl, refl) (refl, refl) (refl, refl) (refl, refl) (refl, refl)

pub leaves-as-plain : LeavesAsPlain
unfolding LeavesAsPlain deliver
leaves-as-plain c s plain t room e h f =
    let d = c.defaults in
    let xs = c.lamps in
    let n = plain-no-init t.message.number h in
    let u : Sent = record { message = plain_form t.message; cast = t.cast } in
    ap (with_lamps c)
    (ap (λ (o : Outcome Sent). (delivering d xs o room).lamps) e
    ∙ ap (λ (w : Walked). w.lamps) (plain-walks d xs room t n.0)
    ∙ go (room_small room)
    ∙ sym (ap (λ (w : Walked). w.lamps) (plain-walks d xs room u n.1))
    ∙ sym (ap (λ (o : Outcome Sent). (delivering d xs o room).lamps) f))
  where
    walked : Message → Walked
    walked m = walk (reaching c.defaults m t.cast) 0 c.lamps

    small : Walked
    small = record { lamps = c.lamps; outcome = refused 9 }

    go : (b : Bool) → (cond b small (walked t.message)).lamps ≡ (cond b small (walked (plain_form t.message))).lamps
    go true = refl
    go false = walk-alike c.defaults t.message t.cast 0 c.lamps

-- It keeps every flag.
pub keeps-flags : KeepsFlags
unfolding KeepsFlags acted changed_plain plain_number acknowledged
keeps-flags d m l h =
    either (λ (x : Lamp). x.flags ≡ l.flags) (obeys m.number l.state)
    (by-acknowledged (λ (n : ℕ). (changed_plain d (numbered (plain_number n) m.fields) l).flags ≡ l.flags) refl refl refl refl refl refl refl m.number h)
    refl

-- By the state and by the number, computed. (A lamp is itself with its own state.)
module _ (d : Defaults) (f : List ℕ) where
  abbrev Afterwards : ℕ → Lamp → Type 0
  Afterwards n l = answered d (numbered n f) l ≡ answered d read_temp_status (acted d (numbered n f) l)

  in-state : (s : State) (l : Lamp) → (n : ℕ) → acknowledged n ≡ true → Afterwards n (with_state s l)
  unfolding answered acted changed_plain told_plain plain_number acknowledged
  in-state Uninitialized l = by-acknowledged (λ (n : ℕ). Afterwards n (with_state Uninitialized l)) refl refl refl refl refl refl refl
  in-state Sleep l = by-acknowledged (λ (n : ℕ). Afterwards n (with_state Sleep l)) refl refl refl refl refl refl refl
  in-state Active l = by-acknowledged (λ (n : ℕ). Afterwards n (with_state Active l)) refl refl refl refl refl refl refl
  in-state DeepSleep l = by-acknowledged (λ (n : ℕ). Afterwards n (with_state DeepSleep l)) refl refl refl refl refl refl refl

pub answers-afterwards : AnswersAfterwards
unfolding AnswersAfterwards
answers-afterwards d m l h = in-state d m.fields l.state l m.number h

pub passed-by : PassedBy
unfolding PassedBy acted answered acknowledged
passed-by d m l h e =
    let no : obeys m.number l.state ≡ false = rw e (by-acknowledged (λ (n : ℕ). leb n 0x01 ≡ false) refl refl refl refl refl refl refl m.number h) in
    (rw no, rw no)

-- What the dissector accepts of them is for one lamp and no init.
pub may-stand-in-lists : MayStandInLists
unfolding MayStandInLists
may-stand-in-lists s t e h =
    let d = dissected s e in
    let g = named s d.0 t d.1.1 in
    let n = ap (λ (x : Message). x.number) g.message in
    let r = acknowledged-row t.message.number h in
    let row = done-one (sym g.known ∙ sym (ap row_of n) ∙ r.1.1) in
    let one = one-listed t.cast (sym (ap (λ (x : Row). cast_listed x.casts t.cast) row) ∙ g.listed) in
    ((plain-no-init t.message.number h).0, subst OneLamp (sym one.1) tt)
