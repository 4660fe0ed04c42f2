-- Document 01, "Telegrams at the edges", the cases on chains: of the written definitions, computed.
-- Assumes nothing.
use Prim.Native.Nat.{ℕ}
use mathlib.Core.Path.{◌≡◌, refl}
use mathlib.Core.List.{List, [], ◌∷◌}
use Rattle.checksum.specs.Checksum.{shift_bit, remainder_byte, checksum_of}
use Rattle.telegram.specs.Numbers.{Outcome, refused, done, after}
use Rattle.telegram.specs.Telegram.{framing, reading, unsealed, telegram_of}
use Rattle.table.specs.Casts.{destination}
use Rattle.table.specs.Table.{row_of, acknowledged, plain_number}
use Rattle.command.specs.Fields.{layout_of}
use Rattle.command.specs.Commands.{naming, dissecting}
use Rattle.rules.specs.declared.Defaults.{Defaults}
use Rattle.rules.specs.Chain.{Chain, fresh, making, is_init, visiting, permitting, responding, delivering, deliver, sensing}

module _ (d : Defaults) where
  -- Nine fresh lamps, temperature 6B at place 8, given A0 04 02 A9: the whole answer is A0 25 02 6B 40 D1.
  pub nine : after (after (making 9 d) (λ (c : Chain). sensing c 8 0x6B 0))
      (λ (c : Chain). (deliver c (0xA0 ∷ 0x04 ∷ 0x02 ∷ 0xA9 ∷ []) 12).outcome)
      ≡ done (0xA0 ∷ 0x25 ∷ 0x02 ∷ 0x6B ∷ 0x40 ∷ 0xD1 ∷ [])
  unfolding shift_bit remainder_byte checksum_of framing reading unsealed telegram_of destination layout_of row_of acknowledged plain_number naming dissecting fresh is_init visiting permitting responding delivering deliver sensing
  nine = refl

  -- INITBIDIR from a, delivered to n fresh lamps.
  abbrev init_from : ℕ → ℕ → Outcome (List ℕ)
  init_from n a = after (making n d) (λ (c : Chain). (deliver c (telegram_of a 0x02 []) 12).outcome)

  -- Init from 3EF with one lamp is done, with two is 12; from 1 with 1007 lamps is done.
  pub at-the-end : (init_from 1 0x3EF ≡ done (telegram_of 0x3EF 0x02 (0x00 ∷ 0x40 ∷ [])))
      × ((init_from 2 0x3EF ≡ refused 12) × (init_from 1007 0x001 ≡ done (telegram_of 0x3EF 0x02 (0x00 ∷ 0x40 ∷ []))))
  unfolding shift_bit remainder_byte checksum_of framing reading unsealed telegram_of destination layout_of row_of acknowledged plain_number naming dissecting fresh is_init visiting permitting responding delivering deliver
  at-the-end = (refl, (refl, refl))
