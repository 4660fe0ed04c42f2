-- How the bytes of an answer are handed over.
-- Assumes nothing.
use Rattle.std.specs.Prelude.{ℕ, ◌-◌, List, ◌++◌, length, replicate}
use Rattle.lamp.specs.declared.Payload.{Payload}

-- The bytes of an answer, up to 6, with zeros behind them.
abbrev pub padded : List ℕ → Payload
padded p = record { bytes = p ++ replicate (6 - length p) 0; size = length p }
