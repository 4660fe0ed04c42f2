-- `telegram::build_telegram` meets its contract: at each return the tests that led there pick the line of `building`.
-- Assumes nothing.
use mathlib.Core.Path.{◌≡◌, ◌∙◌, refl, sym, ap}
use native.Mathlib.Omega.{arith}
use lib.ListN.{length}
use Rattle.telegram.specs.Numbers.{counted, done, refused}
use Rattle.telegram.specs.Telegram.{building}
use Rattle.telegram.proofs.Outcomes.{told-refused, told-done}
use Rattle.telegram.proofs.Building.{Sendable, listed_le, telegram-length, build-address, build-command, build-length, build-room, build-done}
use Rattle.telegram.proofs.build_telegram.Goals as goal
use Rattle.telegram.proofs.build_telegram.Goals.{Else-not-listed_length, Joined-then-address-gt1023, then-address-gt1023-via-then-address-gt1023, then-address-gt1023-via-else-address-gt1023+then-command-gt127, then-address-gt1023-via-else-address-gt1023+else-command-gt127+then-not-listed_length}

-- where a test holds, the fields are refused
unsendable : (c : Joined-then-address-gt1023) → let a = c.args in
    building a.address.0 a.command a.payload.now (length a.out.now) ≡ refused 10
unsendable c =
    elim c.then-address-gt1023.branch [
      | then-address-gt1023-via-then-address-gt1023 w ↦ build-address _ _ _ _ w.if-address-gt1023.true
      | then-address-gt1023-via-else-address-gt1023+then-command-gt127 w ↦ build-command _ _ _ _ w.if-address-gt1023.false w.if-command-gt127.true
      | then-address-gt1023-via-else-address-gt1023+else-command-gt127+then-not-listed_length w ↦
          build-length _ _ _ _ w.if-address-gt1023.false w.if-command-gt127.false
          (sym w.listed_length.ensures ∙ w.if-not-listed_length.true)
    ]

-- past them they can be sent
sendable : (c : Else-not-listed_length) → let a = c.args in
    Sendable a.address.0 a.command a.payload.now
sendable c =
    record {
      address = c.if-address-gt1023.false;
      command = c.if-command-gt127.false;
      size = sym c.listed_length.ensures ∙ c.if-not-listed_length.false;
    }

pub returns-then-address-gt1023 : goal.returns-then-address-gt1023
returns-then-address-gt1023 c =
    let p = told-refused counted _ _ (unsendable (goal.at.returns-then-address-gt1023 c).Joined-then-address-gt1023) refl in
    record { result_value = p.0; out_after = p.1 }

pub returns-then-out-total : goal.returns-then-out-total
returns-then-out-total c =
    let p = told-refused counted _ _ (build-room _ _ _ _ (sendable (goal.at.returns-then-out-total c).Else-not-listed_length) c.if-out-total.true) refl in
    record { result_value = p.0; out_after = p.1 }

pub write_telegram-requires : goal.write_telegram-requires
write_telegram-requires c = let v = sendable (goal.at.write_telegram-requires c).Else-not-listed_length in
    omega (arith, v.address, v.command, listed_le (length c.args.payload.now) v.size)

pub returns : goal.returns
returns c =
    let p = told-done counted _ _ (build-done _ _ _ _ (sendable (goal.at.returns c).Else-not-listed_length) c.if-out-total.false) (ap done (sym (telegram-length _ _ _))) c.write_telegram.ensures in
    record { result_value = p.0; out_after = p.1 }
