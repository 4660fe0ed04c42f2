-- docs/RECORD.md: how a chain lies in lent memory. Document 01, "A lamp and the chain": which memory holds a valid chain.
-- Assumes nothing.
use Rattle.std.specs.Prelude.{ℕ, zero, suc, ◌+◌, ◌*◌, cond, not, List, [], ◌∷◌, ◌++◌, ltb, length, get_or, drop}
use Rattle.telegram.specs.Numbers.{Outcome, refuse, done}
use Rattle.command.specs.Fields.{word_at, word_bytes}
use Rattle.rules.specs.declared.Lamp.{Lamp}
use Rattle.rules.specs.declared.Defaults.{Defaults}
use Rattle.rules.specs.Chain.{Chain, count_right, lamps_right}
use Rattle.slot.specs.Slot.{slot_size, lamp_of, slot_of}

-- The header has 6 bytes.
abbrev pub header_size : ℕ
header_size = 6

-- The slot of place p begins behind the header and the slots before it.
abbrev pub slot_at : ℕ → ℕ
slot_at p = header_size + slot_size * p

-- The record of n lamps ends where the slot of place n would begin.
abbrev pub record_length : ℕ → ℕ
record_length n = slot_at n

-- The length of the record for a count of lamps, 0 for a count that is not 1 to 1007.
abbrev pub length_for : ℕ → ℕ
length_for n = cond (count_right n) (record_length n) 0

-- The lamps of n slots, one behind the other ..
unfoldable pub lamps_of : ℕ → List ℕ → List Lamp
lamps_of zero s = []
lamps_of (suc n) s = lamp_of s ∷ lamps_of n (drop slot_size s)

-- .. and the slots of lamps.
unfoldable pub slots_of : List Lamp → List ℕ
slots_of [] = []
slots_of (x ∷ xs) = slot_of x ++ slots_of xs

-- The header: lamp count (2), default setup, default thresholds (3).
unfoldable pub header_of : ℕ → Defaults → List ℕ
header_of n d = word_bytes n ++ (d.setup ∷ d.thresholds.cycle ∷ d.thresholds.low ∷ d.thresholds.high ∷ [])

-- The lamp count in memory ..
unfoldable pub count_of : List ℕ → ℕ
count_of mem = word_at mem 0

-- .. and the defaults.
unfoldable pub defaults_of : List ℕ → Defaults
defaults_of mem = record { setup = get_or mem 2 0; thresholds = record { cycle = get_or mem 3 0; low = get_or mem 4 0; high = get_or mem 5 0 } }

-- The first n lamps in memory.
unfoldable pub lamps_in : ℕ → List ℕ → List Lamp
lamps_in n mem = lamps_of n (drop header_size mem)

-- The chain that the bytes of memory stand for.
unfoldable pub decode : List ℕ → Chain
decode mem = record { defaults = defaults_of mem; lamps = lamps_in (count_of mem) mem }

-- Memory that holds a chain: its record at the front, the bytes behind the record's end as they were.
unfoldable pub hold : List ℕ → Chain → List ℕ
hold mem c = header_of (length c.lamps) c.defaults ++ slots_of c.lamps ++ drop (record_length (length c.lamps)) mem

-- The chain in memory. Memory which holds no valid chain (count or a field outside its range, or fewer bytes than its count needs)
-- is refused with 11.
unfoldable pub chain_in : List ℕ → Outcome Chain
chain_in mem =
    refuse (ltb (length mem) header_size) 11
    (refuse (not (count_right (count_of mem))) 11
    (refuse (ltb (length mem) (record_length (count_of mem))) 11
    (refuse (not (lamps_right (decode mem).lamps)) 11
    (done (decode mem)))))
