-- Document 01, "Addresses and casts".
-- Assumes nothing.
use Rattle.std.specs.Prelude.{ℕ, ◌+◌, ◌-◌, Bool, true, cond, ◌&&◌, eqb, leb}
use Rattle.telegram.specs.Numbers.{Outcome, refused, done}
use Rattle.table.specs.declared.Cast.{Cast}
use Rattle.table.specs.declared.Cast.TheVariants.{Everyone, One, Group}

-- Hex 000 is everyone; 001 to 3EF one lamp; 3F0 to 3FE groups 0 to 14; 3FF is never a destination (7).
unfoldable pub destination : ℕ → Outcome Cast
destination a =
    cond (eqb a 0) (done Everyone)
    (cond (leb a 0x3EF) (done (One (record { 0 = a })))
    (cond (leb a 0x3FE) (done (Group (a - 0x3F0)))
    (refused 7)))

-- The address that a cast is sent to.
abbrev pub address_of : Cast → ℕ
address_of Everyone = 0
address_of (One a) = a.0
address_of (Group g) = 0x3F0 + g

-- A cast in two numbers: its kind, 0 everyone, 1 one lamp, 2 a group ..
abbrev pub cast_kind : Cast → ℕ
cast_kind Everyone = 0
cast_kind (One a) = 1
cast_kind (Group g) = 2

-- .. and its value, the address or the group, 0 for everyone.
abbrev pub cast_value : Cast → ℕ
cast_value Everyone = 0
cast_value (One a) = a.0
cast_value (Group g) = g

-- A single-lamp or first address is 001 to 3EF, a group at most 14.
abbrev pub cast_in_range : Cast → Bool
cast_in_range Everyone = true
cast_in_range (One a) = leb 1 a.0 && leb a.0 0x3EF
cast_in_range (Group g) = leb g 14
