-- Document 01, "The bytes of a telegram": what the reader gives of a list of bytes, and what the raw builder makes.
-- Assumes nothing.
use Rattle.std.specs.Prelude.{ℕ, ◌+◌, ◌*◌, ◌/◌, ◌%◌, ◌<◌, Bool, cond, not, ◌||◌, Result, Ok, Err, List, [], ◌∷◌, ◌++◌, eqb, ltb, leb, length, get_or, take, drop}
use Rattle.checksum.specs.Checksum.{checksum_of}
use Rattle.telegram.specs.Numbers.{Outcome, done, refuse_for, refuse, after, fitted, wrong_checksum}
use Rattle.telegram.specs.declared.Telegram.{Telegram}
use Rattle.telegram.specs.declared.Refusal.{Refusal}
use Rattle.telegram.specs.declared.Refusal.TheVariants.{TooShort}

-- The refusal that the reader's answer holds. (An accepted telegram holds none; of it this gives 1.)
abbrev pub refusal_in : Result Telegram Refusal → Refusal
refusal_in (Err e) = e
refusal_in (Ok t) = TooShort

-- Most significant bit first: the preamble is the top 4 bits of byte 0 ..
abbrev pub preamble_in : List ℕ → ℕ
preamble_in s = get_or s 0 0 / 16

-- .. the address the next 10 bits, 4 of byte 0 and 6 of byte 1 ..
abbrev pub address_in : List ℕ → ℕ
address_in s = get_or s 0 0 % 16 * 64 + get_or s 1 0 / 4

-- .. the size index the next 3 bits, 2 of byte 1 and 1 of byte 2 ..
abbrev pub index_from : ℕ → ℕ → ℕ
index_from b1 b2 = b1 % 4 * 2 + b2 / 128

abbrev pub index_in : List ℕ → ℕ
index_in s = index_from (get_or s 1 0) (get_or s 2 0)

-- .. and the command the low 7 bits of byte 2.
abbrev pub command_in : List ℕ → ℕ
command_in s = get_or s 2 0 % 128

-- Index 0, 1, 2, 3, 4, 6, 7 means 0, 1, 2, 3, 4, 6, 8 payload bytes.
abbrev pub size_of : ℕ → ℕ
size_of i = cond (eqb i 7) 8 i

-- The fields of a telegram, from its first three bytes.
abbrev pub telegram_in : List ℕ → Telegram
telegram_in s = record { address = record { 0 = address_in s }; command = command_in s; size = size_of (index_in s) }

-- The frame: 1 to 4 as numbered.
unfoldable pub framing : List ℕ → Outcome Telegram
framing s =
    refuse (ltb (length s) 4) 1
    (refuse (not (eqb (preamble_in s) 10)) 2
    (refuse (eqb (index_in s) 5) 3
    (refuse (not (eqb (length s) (4 + size_of (index_in s)))) 4
    (done (telegram_in s)))))

-- The checksum worked out, of all bytes up to the payload's last, and the one received, the byte behind it.
abbrev pub computed_in : List ℕ → ℕ → ℕ
computed_in s size = checksum_of (take (3 + size) s)

abbrev pub received_in : List ℕ → ℕ → ℕ
received_in s size = get_or s (3 + size) 0

-- The two are the same.
abbrev pub checksum_right : List ℕ → ℕ → Bool
checksum_right s size = eqb (computed_in s size) (received_in s size)

-- A frame with a wrong checksum: 5, with both.
abbrev pub checking : List ℕ → Telegram → Outcome Telegram
checking s t =
    refuse_for (not (checksum_right s t.size)) (wrong_checksum (computed_in s t.size) (received_in s t.size)) (done t)

-- The telegram reader: 1 to 4, then 5.
unfoldable pub reading : List ℕ → Outcome Telegram
reading s = after (framing s) (checking s)

-- The payload of a telegram: the bytes behind the first three.
abbrev pub payload_in : List ℕ → ℕ → List ℕ
payload_in s size = take size (drop 3 s)

-- Byte 0 = 160 + address div 64, byte 1 = (address mod 64) × 4 + index div 2, byte 2 = (index mod 2) × 128 + command.
abbrev pub header : ℕ → ℕ → ℕ → List ℕ
header a i c = (160 + a / 64) ∷ (a % 64 * 4 + i / 2) ∷ (i % 2 * 128 + c) ∷ []

-- The listed payload lengths: 0, 1, 2, 3, 4, 6, 8. Payloads of 5 or 7 bytes don't exist.
abbrev pub listed : ℕ → Bool
listed n = leb n 4 || eqb n 6 || eqb n 8

-- The size index of a listed payload length.
abbrev pub index_of : ℕ → ℕ
index_of n = cond (eqb n 8) 7 n

-- All bytes before the checksum.
unfoldable pub unsealed : ℕ → ℕ → List ℕ → List ℕ
unsealed a c p = header a (index_of (length p)) c ++ p

-- The telegram: those bytes, then their checksum.
unfoldable pub telegram_of : ℕ → ℕ → List ℕ → List ℕ
telegram_of a c p = unsealed a c p ++ (checksum_of (unsealed a c p) ∷ [])

-- The raw builder, of address, command, payload and the length of the room: 10, then 9.
unfoldable pub building : ℕ → ℕ → List ℕ → ℕ → Outcome (List ℕ)
building a c p room =
    refuse (ltb 1023 a) 10
    (refuse (ltb 127 c) 10
    (refuse (not (listed (length p))) 10
    (fitted room (telegram_of a c p))))

-- Each element is a byte.
abbrev pub Bytes : List ℕ → Type 0
Bytes s = (i : ℕ) → get_or s i 0 < 256
