-- Request 01, "Captures as they arrive": what each call on a chunk gives back and leaves, and a list of chunks read by such calls.
-- Assumes nothing.
use Rattle.std.specs.Prelude.{◌≡◌, ℕ, ◌+◌, ◌-◌, cond, Result, Ok, Err, List, [], ◌∷◌, ◌++◌, length, take, drop}
use Rattle.telegram.specs.Numbers.{Outcome, refused_for, refused, done, reason_of}
use Rattle.telegram.specs.Telegram.{reading}
use Rattle.telegram.specs.declared.Telegram.{Telegram as Fields}
use Rattle.frame.specs.Frame.{Cutting, incomplete, broken, whole, cutting}
use Rattle.telegram.specs.declared.Refusal.{Refusal}
use Rattle.capture.specs.declared.Reply.{Reply as Told}
use Rattle.capture.specs.declared.Reply.TheVariants.{Telegram, More, Ended}
use Rattle.capture.specs.declared.Next.{Next}
use Rattle.capture.specs.declared.Closing.{Closing}
use Rattle.capture.specs.declared.Scan.{Scan}
use Rattle.capture.specs.State.{Standing, going, ended, stopped_for, stopped, State, state_of, padded, carrying, resting, carried_in, is_left}
use Rattle.capture.specs.Run.{wrapped, run, telegrams_in, at_end}

-- What a call gives that refuses nothing: a telegram with its fields, that more bytes are needed, or that the run is done.
pub data Reply : Type 0 where
  telegram : Fields → Reply
  more : Reply
  over : Reply

-- The code's answer in these terms.
abbrev pub answer_as : Result Told Refusal → Outcome Reply
answer_as (Ok (Telegram t)) = done (telegram t)
answer_as (Ok More) = done more
answer_as (Ok Ended) = done over
answer_as (Err e) = refused_for (reason_of e)

-- What a call for the next telegram gives and leaves: the telegram's bytes with zeros behind them (all zeros where there is none), the
-- index in the chunk from which the next call reads on, and the state.
pub record Given : Type 0 where
  pub answer : Outcome Reply
  pub bytes : List ℕ
  pub at : ℕ
  pub state : State

abbrev pub next_as : Next → Given
next_as n = record { answer = answer_as n.answer; bytes = n.bytes; at = n.at; state = state_of n.reading }

-- An answer without a telegram.
abbrev pub without : Outcome Reply → ℕ → State → Given
without o at s = record { answer = o; bytes = padded []; at = at; state = s }

-- The answer that a reading repeats: after an end that the run is done, after a refusal that refusal.
abbrev pub answer_of : Standing → Outcome Reply
answer_of going = done more
answer_of ended = done over
answer_of (stopped_for e) = refused_for e

-- A whole telegram of k bytes, c, of which the state carried the first: given where the telegram reader accepts it. A refusal leaves the
-- index where it was.
abbrev pub next_judged : Outcome Fields → List ℕ → ℕ → State → ℕ → Given
next_judged (done t) c k s at = record { answer = done (telegram t); bytes = padded c; at = at + (k - s.count); state = carrying [] (wrapped (s.position + k)) }
next_judged (refused_for e) c k s at = without (refused_for e) at (resting (stopped_for e) s.position)

-- By what the bytes c show, which are those carried and then the last m of the chunk, from the index at on.
abbrev pub next_cut : Cutting → List ℕ → ℕ → State → ℕ → Given
next_cut incomplete c m s at = without (done more) (at + m) (carrying c s.position)
next_cut (broken n) c m s at = without (refused n) at (resting (stopped n) s.position)
next_cut (whole k) c m s at = next_judged (reading (take k c)) (take k c) k s at

-- By how the reading stands; l are the bytes of the chunk from the index on.
abbrev pub next_by : Standing → List ℕ → State → ℕ → Given
next_by going l s at = next_cut (cutting (carried_in s ++ l)) (carried_in s ++ l) (length l) s at
next_by ended l s at = without (answer_of ended) at s
next_by (stopped_for e) l s at = without (answer_of (stopped_for e)) at s

-- The next telegram of a chunk, from the index at on. A state that no reading leaves gives 11 and stays.
unfoldable pub nexting : List ℕ → State → ℕ → Given
nexting chunk s at = cond (is_left s) (next_by s.standing (drop at chunk) s at) (without (refused 11) at s)

-- What the end of the run gives and leaves.
pub record Closed : Type 0 where
  pub answer : Outcome Reply
  pub state : State

abbrev pub closing_as : Closing → Closed
closing_as c = record { answer = answer_as c.answer; state = state_of c.reading }

abbrev pub closed : State → Closed
closed s = record { answer = answer_of s.standing; state = s }

-- The end of the run; 11 as above.
unfoldable pub closing : State → Closed
closing s = cond (is_left s) (closed (at_end s)) (record { answer = refused 11; state = s })

-- What reading a whole chunk gives and leaves: how many telegrams it completed, and the position of the first byte that belongs to none.
pub record Scanned : Type 0 where
  pub answer : Outcome Reply
  pub telegrams : ℕ
  pub position : ℕ
  pub state : State

abbrev pub scan_as : Scan → Scanned
scan_as s = record { answer = answer_as s.answer; telegrams = s.telegrams; position = s.position; state = state_of s.reading }

abbrev pub scanned : ℕ → State → Scanned
scanned n s = record { answer = answer_of s.standing; telegrams = n; position = s.position; state = s }

-- Reading a whole chunk; 11 as above, which has no position.
unfoldable pub scanning : List ℕ → State → Scanned
scanning chunk s =
    cond (is_left s) (scanned (length (telegrams_in s chunk)) (run s chunk))
    (record { answer = refused 11; telegrams = 0; position = 0; state = s })

-- The telegram that a call gave, if it gave one.
abbrev pub told_by : Outcome Reply → List ℕ → List (List ℕ)
told_by (done (telegram t)) c = take (4 + t.size) c ∷ []
told_by (done more) c = []
told_by (done over) c = []
told_by (refused_for e) c = []

abbrev pub told : Given → List (List ℕ)
told g = told_by g.answer g.bytes

-- A chunk is read by calls, from an index on, until one gives no telegram: the telegrams given, and the state left.
pub data Calls (c : List ℕ) : State → ℕ → List (List ℕ) → State → Type 0 where
  last : {s : State} {at : ℕ} → told (nexting c s at) ≡ [] → Calls c s at [] (nexting c s at).state
  next : {s s' : State} {at : ℕ} {t : List ℕ} {ts : List (List ℕ)} → told (nexting c s at) ≡ t ∷ []
      → Calls c (nexting c s at).state (nexting c s at).at ts s' → Calls c s at (t ∷ ts) s'

-- Chunks are read one after the other, each from its start, with the state that the one before left.
pub data Chunks : List (List ℕ) → State → List (List ℕ) → State → Type 0 where
  none : {s : State} → Chunks [] s [] s
  chunk : {c : List ℕ} {cs : List (List ℕ)} {s s' s'' : State} {ts us : List (List ℕ)} → Calls c s 0 ts s' → Chunks cs s' us s''
      → Chunks (c ∷ cs) s (ts ++ us) s''

-- The bytes of a list of chunks, uncut.
abbrev pub joined : List (List ℕ) → List ℕ
joined [] = []
joined (c ∷ cs) = c ++ joined cs
