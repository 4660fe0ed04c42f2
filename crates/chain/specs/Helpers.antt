-- How the code splits delivery: what the contracts of its helpers cite. No public contract cites these.
-- Assumes nothing.
use Rattle.std.specs.Prelude.{ℕ, Result, Ok, Err, List, [], length}
use Rattle.telegram.specs.Numbers.{Reason, Outcome, refused_for, done, reason_of}
use Rattle.telegram.specs.declared.Refusal.{Refusal}
use Rattle.table.specs.declared.Cast.{Cast}
use Rattle.table.specs.declared.Cast.TheVariants.{Everyone, Group}
use Rattle.command.specs.Fields.{layout_of, fields_by}
use Rattle.command.specs.Commands.{Message, Sent, numbered, dissecting}
use Rattle.rules.specs.Chain.{Walked, walk, reaching, visiting, responding}
use Rattle.chain.specs.Record.{decode}
use Rattle.chain.specs.declared.Reach.{Reach}
use Rattle.chain.specs.declared.Reach.TheVariants.{Everyone as ReachEveryone, Members}

-- An accepted telegram and the lamps in memory: 7 for an init at 000, 12, else the walk.
unfoldable pub responded_in : List ℕ → Sent → Walked
responded_in mem t = responding (decode mem).defaults (decode mem).lamps (done t)

-- The walk of an accepted telegram along the lamps in memory.
unfoldable pub walked_in : List ℕ → Sent → Walked
walked_in mem t = walk (visiting (decode mem).defaults (length (decode mem).lamps) t) 0 (decode mem).lamps

-- What the lamps in memory do with a telegram's bytes: 1 to 8, 7 for an init at 000, 12, else the walk.
unfoldable pub delivered_in : List ℕ → List ℕ → Walked
delivered_in mem s = responding (decode mem).defaults (decode mem).lamps (dissecting s)

-- Whether a telegram may be done: its refusal, or done with it.
abbrev pub permit_as : Result Unit Refusal → Sent → Outcome Sent
permit_as (Ok u) t = done t
permit_as (Err e) t = refused_for (reason_of e)

-- An init of a kind, 02 or 03, for a cast.
abbrev pub init_of : ℕ → Cast → Sent
init_of k cast = record { message = numbered k []; cast = cast }

-- The command of a number with the bytes of its payload ..
abbrev pub command_in : ℕ → List ℕ → Message
command_in n p = numbered n (fields_by (layout_of n) p)

-- .. and the same sent to a cast.
abbrev pub sent_in : ℕ → List ℕ → Cast → Sent
sent_in n p cast = record { message = command_in n p; cast = cast }

-- The cast of which a reach is made.
abbrev pub cast_of : Reach → Cast
cast_of ReachEveryone = Everyone
cast_of (Members g) = Group g

-- A refusal for a reason and the lamps in memory: 5 sets CE on the lamp at place 0.
unfoldable pub refused_in : List ℕ → Reason → Walked
refused_in mem e = responding (decode mem).defaults (decode mem).lamps (refused_for e)

-- The walk of a command that is no init along the lamps in memory.
unfoldable pub reached_in : List ℕ → Message → Cast → Walked
reached_in mem m cast = walk (reaching (decode mem).defaults m cast) 0 (decode mem).lamps
