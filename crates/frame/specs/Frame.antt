-- Request 01, "Captures as they arrive": how a run of bytes is cut into telegrams, by preamble, index and length, without the checksum.
-- Assumes nothing.
use Rattle.std.specs.Prelude.{ℕ, ◌+◌, cond, not, List, eqb, ltb, length}
use Rattle.telegram.specs.Numbers.{number_of}
use Rattle.telegram.specs.Telegram.{preamble_in, index_in, size_of}
use Rattle.frame.specs.declared.Cut.{Cut}
use Rattle.frame.specs.declared.Cut.TheVariants.{Incomplete, Broken, Whole}

-- What the bytes from a telegram's first on show: that more are needed, a refusal with its number, or a telegram of so many bytes.
pub data Cutting : Type 0 where
  incomplete : Cutting
  broken : ℕ → Cutting
  whole : ℕ → Cutting

-- The code's answer in these terms.
abbrev pub cut_as : Cut → Cutting
cut_as Incomplete = incomplete
cut_as (Broken e) = broken (number_of e)
cut_as (Whole n) = whole n

-- A first byte with a wrong preamble is 2 at once, a bad index is 3 once three bytes are in; then the telegram has 4 bytes and its payload.
unfoldable pub cutting : List ℕ → Cutting
cutting s =
    cond (ltb (length s) 1) incomplete
    (cond (not (eqb (preamble_in s) 10)) (broken 2)
    (cond (ltb (length s) 3) incomplete
    (cond (eqb (index_in s) 5) (broken 3)
    (cond (ltb (length s) (4 + size_of (index_in s))) incomplete
    (whole (4 + size_of (index_in s)))))))
