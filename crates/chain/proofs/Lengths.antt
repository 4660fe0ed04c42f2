-- An answer has at most 12 bytes, so a room of 12 is never too small for one.
-- Assumes nothing.
use mathlib.Core.Path.{◌≡◌, refl, sym, ap, ◌∙◌}
use mathlib.Core.List.{List, [], ◌∷◌, ◌++◌, append_assoc}
use Prim.Native.Nat.{ℕ, ◌≤◌}
use native.Mathlib.Omega.{arith}
use lib.ListN.{length, take, drop, take-append-drop}
use lib.Seq.{drop-append-le, length-take-le}
use Rattle.telegram.specs.Numbers.{Outcome, refused_for, done, leaves}
use Rattle.answer.proofs.RoundTrip.{answered-short}
use Rattle.chain.specs.Memory.{delivered}
use Rattle.chain.proofs.Replies.{accepted-in}

-- Done with at most 12 bytes, or refused.
abbrev pub Short : Outcome (List ℕ) → Type 0
Short (refused_for d) = Unit {0}
Short (done s) = length s ≤ 12

-- What delivery gives is short: every answer is one that the answer dissector accepts.
pub short-delivered : (mem s : List ℕ) (room : ℕ) → Short (delivered mem s room).outcome
short-delivered mem s room = go (delivered mem s room).outcome refl
  where
    go : (o : Outcome (List ℕ)) → (delivered mem s room).outcome ≡ o → Short o
    go (refused_for d) e = tt
    go (done []) e = omega arith
    go (done (x ∷ xs)) e =
        let a = (accepted-in mem s room x xs e).answer in
        answered-short (x ∷ xs) a.reply a.accepted

-- So an answer that was written into the first 12 bytes of a room is written into the room.
pub left-front : (o : Outcome (List ℕ)) (room front : List ℕ) → Short o → 12 ≤ length room → front ≡ take 12 room
    → leaves o front ++ drop 12 room ≡ leaves o room
left-front (refused_for d) room front h k e = ap (λ (f : List ℕ). f ++ drop 12 room) e ∙ take-append-drop 12 room
left-front (done s) room front h k e =
    let n : length front ≡ 12 = ap length e ∙ length-take-le 12 room k in
    let r : front ++ drop 12 room ≡ room = ap (λ (f : List ℕ). f ++ drop 12 room) e ∙ take-append-drop 12 room in
    append_assoc s (drop (length s) front) (drop 12 room)
    ∙ ap (λ (t : List ℕ). s ++ t) (sym (drop-append-le (length s) front (drop 12 room) (omega arith)) ∙ ap (drop (length s)) r)
