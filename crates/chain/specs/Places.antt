-- The lamps of a record, place by place, as the code reads and writes them.
-- Assumes nothing.
use Rattle.std.specs.Prelude.{ℕ, zero, suc, ◌+◌, Bool, true, cond, Option, Some, None, List, [], ◌∷◌, ◌++◌, eqb, get_or, take, drop}
use Rattle.command.specs.Fields.{word_at}
use Rattle.command.specs.Commands.{Message}
use Rattle.rules.specs.declared.Defaults.{Defaults}
use Rattle.rules.specs.declared.Place.{Place}
use Rattle.rules.specs.declared.State.{State}
use Rattle.rules.specs.declared.Thresholds.{Thresholds}
use Rattle.rules.specs.declared.Words.{Words}
use Rattle.rules.specs.declared.Lamp.{Lamp}
use Rattle.rules.specs.Lamp.{with_state, with_pwm, obeys, acted, member}
use Rattle.rules.specs.Chain.{Walked, with_lamps}
use Rattle.slot.specs.Slot.{slot_size, lamp_of, slot_of}
use Rattle.chain.specs.Record.{slot_at, decode, hold}
use Rattle.chain.specs.declared.Reach.{Reach}
use Rattle.chain.specs.declared.Reach.TheVariants.{Everyone, Members}

-- The three PWM words from an index on.
abbrev pub words_at : List ℕ → ℕ → Words
words_at s i = record { red = word_at s i; green = word_at s (i + 2); blue = word_at s (i + 4) }

-- The three thresholds from an index on.
abbrev pub thresholds_at : List ℕ → ℕ → Thresholds
thresholds_at s i = record { cycle = get_or s i 0; low = get_or s (i + 1) 0; high = get_or s (i + 2) 0 }

-- The lamp at place p of memory.
unfoldable pub lamp_at : List ℕ → ℕ → Lamp
lamp_at mem p = lamp_of (drop (slot_at p) mem)

-- Memory with a lamp stored at place p.
unfoldable pub with_lamp : List ℕ → ℕ → Lamp → List ℕ
with_lamp mem p l = take (slot_at p) mem ++ (slot_of l ++ drop (slot_at p + slot_size) mem)

-- Memory after n places from place p on, one after the other, were given what a rule makes of the place and its lamp.
unfoldable pub sweep : (ℕ → Lamp → Lamp) → ℕ → ℕ → List ℕ → List ℕ
sweep rule p zero mem = mem
sweep rule p (suc n) mem = sweep rule (suc p) n (with_lamp mem p (rule p (lamp_at mem p)))

-- The lamps that a command reaches: everyone, or the members of a group.
abbrev pub reached : Reach → Lamp → Bool
reached Everyone l = true
reached (Members g) l = member g l

-- A lamp after a command for those that a reach has.
abbrev pub acted_in : Reach → Defaults → Message → Lamp → Lamp
acted_in reach d m l = cond (reached reach l) (acted d m l) l

-- A lamp after a GO command, which UNINITIALIZED does not obey.
abbrev pub gone : State → Lamp → Lamp
gone s l = cond (obeys 0x04 l.state) (with_state s l) l

-- A lamp after SETPWM with three words, which UNINITIALIZED does not obey.
abbrev pub lit : Words → Lamp → Lamp
lit w l = cond (obeys 0x4F l.state) (with_pwm w l) l

-- The lookup: the place of the first lamp with an address, from place p on.
unfoldable pub place_from : ℕ → ℕ → List Lamp → Option Place
place_from p a [] = None
place_from p a (x ∷ xs) = cond (eqb x.address.0 a) (Some (record { 0 = p })) (place_from (suc p) a xs)

-- Memory after a telegram walked along the lamps that it holds.
unfoldable pub held_after : List ℕ → Walked → List ℕ
held_after mem w = hold mem (with_lamps (decode mem) w.lamps)
