-- Outcomes that the code can answer with, and what their refusals carry: the two checksums of 5 always differ, and only 5 carries
-- something. Laws for an order of tests; the reader and the raw builder.
-- Assumes nothing.
use mathlib.Core.Path.{◌≡◌, refl, sym, ap, subst}
use mathlib.Core.Logic.{◌≢◌}
use mathlib.Core.Bool.{Bool, true, false, not}
use mathlib.Core.List.{List}
use Prim.Native.Nat.{ℕ, ◌+◌}
use native.Mathlib.Omega.{arith}
use borrow.Author.Tests.{eqb-false}
use lib.Dec.{eqb, ltb}
use lib.ListN.{length}
use Rattle.telegram.specs.declared.Telegram.{Telegram}
use Rattle.telegram.specs.declared.Refusal.{Refusal}
use Rattle.telegram.specs.declared.Refusal.TheVariants.{TooShort, Preamble, SizeIndex, ByteCount, Checksum, UnknownCommand, CastNotAllowed, PayloadSize, RoomTooSmall, OutOfRange, NoChain, InitPastEnd, NoLamp}
use Rattle.telegram.specs.Numbers.{Reason, bare, Outcome, refused_for, done, refuse_for, after, fitted, wrong_checksum, reason_of, number_of}
use Rattle.telegram.specs.Telegram.{preamble_in, index_in, size_of, framing, reading, computed_in, received_in, checking, listed, telegram_of, building}
use Rattle.telegram.specs.Carried.{Carries, both, none, Carried, ReaderCarries, BuilderCarries}
use Rattle.telegram.proofs.Outcomes.{never, refused-one}

-- A refusal of the code other than 5 is its number alone.
pub bare-is : (e : Refusal) → number_of e ≢ 5 → reason_of e ≡ bare (number_of e)
bare-is TooShort h = refl
bare-is Preamble h = refl
bare-is SizeIndex h = refl
bare-is ByteCount h = refl
bare-is (Checksum c r) h = absurd (h refl)
bare-is UnknownCommand h = refl
bare-is CastNotAllowed h = refl
bare-is PayloadSize h = refl
bare-is RoomTooSmall h = refl
bare-is OutOfRange h = refl
bare-is NoChain h = refl
bare-is InitPastEnd h = refl
bare-is NoLamp h = refl

-- An outcome that the code can answer with: done, or refused for the reason of one of its refusals, which carries what it should.
pub data Answerable {A : Type 0} (o : Outcome A) : Type 0 where
  well : (a : A) → o ≡ done a → Answerable o
  told : (e : Refusal) → Carries (reason_of e) → o ≡ refused_for (reason_of e) → Answerable o

-- What is done refuses nothing; what is refused is refused for its reason.
pub carried-done : {A : Type 0} (a : A) → Carried (done a)
carried-done a e q = absurd (never (sym q))

pub carried-for : {A : Type 0} (d : Reason) → Carries d → Carried {A = A} (refused_for d)
carried-for d h e q = subst Carries (refused-one q) h

pub answerable-carries : {A : Type 0} (o : Outcome A) → Answerable o → Carried o
answerable-carries o (well a q) = subst Carried (sym q) (carried-done a)
answerable-carries o (told x c q) = subst Carried (sym q) (carried-for (reason_of x) c)

-- Refused with a number other than 5.
pub told-bare : {A : Type 0} {o : Outcome A} (e : Refusal) → number_of e ≢ 5 → o ≡ refused_for (reason_of e) → Answerable o
told-bare e h q = told e (subst Carries (sym (bare-is e h)) (none h)) q

-- One test of an order, and what goes on.
pub refusing : {A : Type 0} (b : Bool) (e : Refusal) {o : Outcome A} → number_of e ≢ 5 → Answerable o → Answerable (refuse_for b (reason_of e) o)
refusing true e h k = told-bare e h refl
refusing false e h k = k

pub passing-on : {A B : Type 0} (d : Reason) → Answerable {A = A} (refused_for d) → Answerable {A = B} (refused_for d)
passing-on d (well a q) = absurd (never q)
passing-on d (told e c q) = told e c (ap refused_for (refused-one q))

pub going_on : {A B : Type 0} (o : Outcome A) {next : A → Outcome B} → Answerable o → ((a : A) → Answerable (next a)) → Answerable (after o next)
going_on (refused_for d) h k = passing-on d h
going_on (done a) h k = k a

pub fitting-in : (room : ℕ) (s : List ℕ) → Answerable (fitted room s)
fitting-in room s = refusing (ltb room (length s)) RoomTooSmall (omega arith) (well s refl)

-- The reader.
framing-answerable : (s : List ℕ) → Answerable (framing s)
unfolding framing
framing-answerable s =
    refusing (ltb (length s) 4) TooShort (omega arith)
    (refusing (not (eqb (preamble_in s) 10)) Preamble (omega arith)
    (refusing (eqb (index_in s) 5) SizeIndex (omega arith)
    (refusing (not (eqb (length s) (4 + size_of (index_in s)))) ByteCount (omega arith) (well _ refl))))

differing : {A : Type 0} (c r : ℕ) (b : Bool) → eqb c r ≡ b → {o : Outcome A} → Answerable o
    → Answerable (refuse_for (not b) (wrong_checksum c r) o)
differing c r true e h = h
differing c r false e h = told (Checksum c r) (both (eqb-false c r e)) refl

checking-answerable : (s : List ℕ) (t : Telegram) → Answerable (checking s t)
checking-answerable s t = differing (computed_in s t.size) (received_in s t.size) _ refl (well t refl)

pub reading-answerable : (s : List ℕ) → Answerable (reading s)
unfolding reading
reading-answerable s = going_on (framing s) (framing-answerable s) (checking-answerable s)

pub reader-carries : ReaderCarries
unfolding ReaderCarries
reader-carries s = answerable-carries (reading s) (reading-answerable s)

-- The raw builder.
pub building-answerable : (a c : ℕ) (p : List ℕ) (room : ℕ) → Answerable (building a c p room)
unfolding building
building-answerable a c p room =
    refusing (ltb 1023 a) OutOfRange (omega arith)
    (refusing (ltb 127 c) OutOfRange (omega arith)
    (refusing (not (listed (length p))) OutOfRange (omega arith) (fitting-in room (telegram_of a c p))))

pub builder-carries : BuilderCarries
unfolding BuilderCarries
builder-carries a c p room = answerable-carries (building a c p room) (building-answerable a c p room)
