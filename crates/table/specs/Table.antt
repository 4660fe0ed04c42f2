-- Document 01, "Commands", the table: casts, payload bytes and answer bytes of each number. Document 02, request 02: the acknowledged
-- commands.
-- Assumes nothing.
use Rattle.std.specs.Prelude.{ℕ, ◌-◌, Bool, true, false, cond, ◌&&◌, ◌||◌, eqb, leb}
use Rattle.telegram.specs.Numbers.{Outcome, refused_for, refused, done, after}
use Rattle.table.specs.declared.Casts.{Casts}
use Rattle.table.specs.declared.Casts.TheVariants.{All, Single, First}
use Rattle.table.specs.declared.Row.{Row}
use Rattle.table.specs.declared.Cast.{Cast}
use Rattle.table.specs.declared.Cast.TheVariants.{Everyone, One, Group}

-- A row of the table: casts, payload bytes, answer bytes.
abbrev pub row : Casts → ℕ → ℕ → Outcome Row
row casts payload answer = done (record { casts = casts; payload = payload; answer = answer })

-- The table: casts, payload bytes and answer bytes of each number. Every other number is unknown (6).
unfoldable pub row_of : ℕ → Outcome Row
row_of n =
    cond (leb n 0x01) (row All 0 0)  -- RESET, CLRERROR
    (cond (leb n 0x03) (row First 0 2)  -- INITBIDIR, INITLOOP
    (cond (leb n 0x06) (row All 0 0)  -- GOSLEEP, GOACTIVE, GODEEPSLEEP
    (cond (eqb n 0x07) (row Single 0 4)  -- IDENTIFY
    (cond (eqb n 0x0C) (row Single 0 2)  -- READMULT
    (cond (eqb n 0x0D) (row All 2 0)  -- SETMULT
    (cond (leb 0x24 n && leb n 0x26) (row Single 0 2)  -- GOSLEEP, GOACTIVE, GODEEPSLEEP, acknowledged
    (cond (eqb n 0x2D) (row Single 2 2)  -- SETMULT, acknowledged
    (cond (eqb n 0x40) (row Single 0 1)  -- READSTATUS
    (cond (eqb n 0x42) (row Single 0 2)  -- READTEMPST
    (cond (eqb n 0x48) (row Single 0 1)  -- READTEMP
    (cond (eqb n 0x4A) (row Single 0 3)  -- READOTTH
    (cond (eqb n 0x4B) (row All 3 0)  -- SETOTTH
    (cond (eqb n 0x4C) (row Single 0 1)  -- READSETUP
    (cond (eqb n 0x4D) (row All 1 0)  -- SETSETUP
    (cond (eqb n 0x4E) (row Single 0 6)  -- READPWM
    (cond (eqb n 0x4F) (row All 6 0)  -- SETPWM
    (cond (eqb n 0x6B) (row Single 3 2)  -- SETOTTH, acknowledged
    (cond (eqb n 0x6D) (row Single 1 2)  -- SETSETUP, acknowledged
    (cond (eqb n 0x6F) (row Single 6 2)  -- SETPWM, acknowledged
    (refused 6))))))))))))))))))))

-- The acknowledged commands: 24, 25, 26, 2D, 6B, 6D and 6F.
unfoldable pub acknowledged : ℕ → Bool
acknowledged n = (leb 0x24 n && leb n 0x26) || (eqb n 0x2D || (eqb n 0x6B || (eqb n 0x6D || eqb n 0x6F)))

-- The number of a command's plain form: of an acknowledged one it is without bit 5, which counts hex 20; of any other its own.
unfoldable pub plain_number : ℕ → ℕ
plain_number n = cond (acknowledged n) (n - 0x20) n

-- The column of casts: all three; one lamp; a first address, which is named as one lamp, or everyone.
abbrev pub cast_listed : Casts → Cast → Bool
cast_listed All cast = true
cast_listed Single Everyone = false
cast_listed Single (One a) = true
cast_listed Single (Group g) = false
cast_listed First Everyone = true
cast_listed First (One a) = true
cast_listed First (Group g) = false

-- The table lists the cast for the command.
abbrev pub lists_cast : Outcome Row → Cast → Bool
lists_cast (done r) cast = cast_listed r.casts cast
lists_cast (refused_for e) cast = false

-- The payload size is right for the command.
abbrev pub payload_fits : Row → ℕ → Bool
payload_fits r size = eqb size r.payload

-- A row that the table has for a number takes the payload size; a number with no row takes none.
abbrev pub fits_row : Outcome Row → ℕ → Bool
fits_row (done r) size = payload_fits r size
fits_row (refused_for e) size = false

-- The payload size is right for a number: the table has a row for it, whose command has a payload of that many bytes.
abbrev pub size_right : ℕ → ℕ → Bool
size_right n size = fits_row (row_of n) size

-- How many bytes the table has for the answer to a number.
abbrev pub answer_size_of : ℕ → Outcome ℕ
answer_size_of n = after (row_of n) (λ (r : Row). done r.answer)
