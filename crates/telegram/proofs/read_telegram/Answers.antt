-- `telegram::read_telegram` meets its contract: a refused frame goes no further, and the checksum decides the rest.
-- Assumes nothing.
use mathlib.Core.Path.{◌≡◌, ◌∙◌, sym, ap}
use native.Mathlib.Omega.{arith}
use Rattle.std.proofs.lemmas.Result.{err_from_is_err_and}
use Rattle.telegram.specs.Numbers.{done, outcome_of}
use Rattle.telegram.specs.Telegram.{framing}
use Rattle.telegram.proofs.Reading.{framed, read-framed, read-checksum, read_done}
use Rattle.telegram.proofs.read_telegram.Goals as goal
use Rattle.telegram.proofs.read_telegram.Goals.{In_ok-t}

-- past the `?` the frame is accepted
frame_is : (c : In_ok-t) → framing c.args.s.now ≡ done c.in_ok-t.t
frame_is c = sym c.read_frame.ensures ∙ ap outcome_of c.in_ok-t.was

pub returns-in_err-t : goal.returns-in_err-t
returns-in_err-t c =
    let p = err_from_is_err_and c.from_residual.result c.from_residual.ensures.1 in
    rw (p.1, p.2) (read-framed _ (sym c.read_frame.ensures ∙ ap outcome_of c.in_err-t.was))

pub computed_in-computed-requires : goal.computed_in-computed-requires
computed_in-computed-requires c = omega (arith, (framed _ _ (frame_is c)).count)

pub received_in-received-requires : goal.received_in-received-requires
received_in-received-requires c = omega (arith, (framed _ _ (frame_is (goal.at.received_in-received-requires c).In_ok-t)).count)

pub returns-then-computed-received : goal.returns-then-computed-received
returns-then-computed-received c =
    read-checksum _ _ (frame_is (goal.at.returns-then-computed-received c).In_ok-t) c.computed_in-computed.ensures
    c.received_in-received.ensures c.if-computed-received.true

pub returns : goal.returns
returns c =
    read_done _ _ (frame_is (goal.at.returns c).In_ok-t) c.computed_in-computed.ensures c.received_in-received.ensures
    c.if-computed-received.false
