-- How words are put into a lent buffer: what the functions that put promise of their answer and of the buffer.
-- Assumes nothing.
use Rattle.std.specs.Prelude.{ℕ, zero, suc, ◌+◌, ◌-◌, ◌/◌, ◌%◌, cond, List, [], ◌∷◌, ◌++◌, length, take, drop, replicate, ◌==◌, nat_le, nat_lt}

-- A lent buffer, and before it how many of its bytes are used.
pub data Text : Type 0 where
  text : ℕ → List ℕ → Text

-- A word appended: it stands behind the used bytes, and all others are as they were. Where it does not fit, nothing changes.
unfoldable pub appended : List ℕ → Text → Text
appended word (text used bytes) =
    cond (nat_le (used + length word) (length bytes))
    (text (used + length word) (take used bytes ++ word ++ drop (used + length word) bytes))
    (text used bytes)

-- Words appended one after another, each where it fits.
unfoldable pub appended_all : List (List ℕ) → Text → Text
appended_all [] t = t
appended_all (word ∷ words) t = appended_all words (appended word t)

-- A number of spaces; at most 64.
unfoldable pub spaces : ℕ → List ℕ
spaces n = take n (replicate 64 32)

-- The character of the last hex digit of a number.
unfoldable pub hex_digit : ℕ → ℕ
hex_digit n = cond (nat_lt (n % 16) 10) (48 + n % 16) (55 + n % 16)

-- A byte in hex.
unfoldable pub in_hex : ℕ → List ℕ
in_hex b = hex_digit (b / 16) ∷ hex_digit b ∷ []

-- A byte in hex with a space before it.
unfoldable pub spaced_hex : ℕ → List ℕ
spaced_hex b = 32 ∷ in_hex b

-- A byte 0, which separates arguments, as a space.
unfoldable pub unseparated : ℕ → ℕ
unseparated b = cond (b == 0) 32 b

-- A byte of the arguments as a word of one character.
unfoldable pub argument : ℕ → List ℕ
argument b = unseparated b ∷ []

-- A number in decimal, where it has at most k digits.
unfoldable pub decimal_up_to : ℕ → ℕ → List ℕ
decimal_up_to zero n = []
decimal_up_to (suc k) n = cond (nat_lt n 10) ((48 + n) ∷ []) (decimal_up_to k (n / 10) ++ ((48 + n % 10) ∷ []))

-- A number in decimal. One of 64 bits has at most 20 digits.
unfoldable pub decimal : ℕ → List ℕ
decimal n = decimal_up_to 20 n

-- How many of five places a number in decimal leaves empty.
unfoldable pub empty_places : ℕ → ℕ
empty_places n = 5 - length (decimal n)

-- A number in decimal with spaces before it, in five places.
unfoldable pub in_five : ℕ → List ℕ
in_five n = replicate (empty_places n) 32 ++ decimal n
