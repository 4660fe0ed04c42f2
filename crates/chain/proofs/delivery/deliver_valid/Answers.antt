-- `chain::delivery::deliver_valid` meets its contract: what the reader or the heading refuses, the dissector refuses; the rest it accepts.
-- Assumes nothing.
use mathlib.Core.Path.{◌≡◌, ◌∙◌, ap, refl, sym}
use Prim.Native.Nat.{◌+◌, ◌-◌}
use native.Mathlib.Omega.{arith}
use lib.ListN.{take, drop}
use Rattle.std.specs.Prelude.{Ok}
use Rattle.telegram.specs.Numbers.{refused_for, done, reason_of, outcome_of}
use Rattle.telegram.specs.Telegram.{reading}
use Rattle.telegram.proofs.Reading.{accepted-count, refusal_is}
use Rattle.command.specs.Commands.{heading_as, naming, dissecting}
use Rattle.command.proofs.Naming.{headed-size, headed-message, dissect-refused, dissect-named}
use Rattle.chain.specs.Helpers.{refused_in, responded_in, sent_in}
use Rattle.chain.proofs.Responding.{told-as}
use Rattle.chain.proofs.Delivering.{delivered-as, refused-told, accepted-cast, accepted-number}
use Rattle.chain.proofs.delivery.deliver_valid.Goals as goal
use Rattle.chain.proofs.delivery.deliver_valid.Goals.{In-Ok, In-Ok-heading_of, In-Err, After-refusal_of}

-- what the reader accepted ..
read_is : (c : In-Ok) → reading c.args.telegram.now ≡ done c.in-Ok.t
read_is c = sym c.read_telegram-read.ensures ∙ ap outcome_of c.in-Ok.is

-- .. and what its heading names, so the dissector accepts it
heading-is : (c : In-Ok-heading_of) → let s = c.args.telegram.now in
    heading_as s c.in-Ok.t (Ok c.in-Ok-heading_of.cast) ≡ naming s c.in-Ok.t
heading-is c =
    let s = c.args.telegram.now in
    ap (heading_as s c.in-Ok.t) (sym c.in-Ok-heading_of.is) ∙ c.heading_of.ensures s

sent_is : (c : In-Ok-heading_of) →
    let s = c.args.telegram.now in
    let t = c.in-Ok.t in
    dissecting s ≡ done (sent_in t.command (take (3 + t.size - 3) (drop 3 s)) c.in-Ok-heading_of.cast)
sent_is c =
    let r = sym c.read_telegram-read.ensures ∙ ap outcome_of c.in-Ok.is in
    sym (headed-message _ _ _ (heading-is c) (omega (arith, accepted-count _ _ r)) refl ∙ dissect-named _ r)

-- what the reader or the heading refuses, the dissector refuses
unread : (c : After-refusal_of) → dissecting c.args.telegram.now ≡ refused_for (reason_of c.refusal_of.result)
unread c = sym (dissect-refused _ (refusal_is _ _ c.read_telegram-read.ensures c.in_default.is c.refusal_of.ensures))

unnamed : (c : In-Err) → dissecting c.args.telegram.now ≡ refused_for (reason_of c.in-Err.e)
unnamed c =
    let s = c.args.telegram.now in
    let r = sym c.read_telegram-read.ensures ∙ ap outcome_of c.in-Ok.is in
    sym (ap (heading_as s c.in-Ok.t) (sym c.in-Err.is) ∙ c.heading_of.ensures s ∙ dissect-named s r)

pub returns-in_default : goal.returns-in_default
unfolding responded_in refused_in
returns-in_default c = let a = c.args in
    told-as a.mem.now a.room.now (delivered-as a.mem.now a.telegram.now (unread (goal.at.returns-in_default c).After-refusal_of)) (refused-told a.mem.now a.room.now (reason_of c.refusal_of.result) c.refuse.ensures)

pub overflow_add-order : goal.overflow_add-order
overflow_add-order c = omega (arith, accepted-count _ _ (read_is (goal.at.overflow_add-order c).In-Ok))

pub slice_bounds-order-end : goal.slice_bounds-order-end
slice_bounds-order-end c = omega (arith, accepted-count _ _ (read_is (goal.at.slice_bounds-order-end c).In-Ok))

pub invariant_of-order : goal.invariant_of-order
invariant_of-order c =
    let r = read_is (goal.at.invariant_of-order c).In-Ok in
    let h = (goal.at.invariant_of-order c).In-Ok-heading_of in
    record { sendable = accepted-number _ _ r; fits = headed-size _ _ _ (heading-is h) (omega (arith, accepted-count _ _ r)); reachable = accepted-cast _ _ (sent_is h) }

pub returns-in-Ok-heading_of : goal.returns-in-Ok-heading_of
unfolding responded_in refused_in
returns-in-Ok-heading_of c = let a = c.args in
    told-as a.mem.now a.room.now (delivered-as a.mem.now a.telegram.now (sent_is (goal.at.returns-in-Ok-heading_of c).In-Ok-heading_of)) c.respond.ensures

pub returns-in-Err : goal.returns-in-Err
unfolding responded_in refused_in
returns-in-Err c = let a = c.args in
    told-as a.mem.now a.room.now (delivered-as a.mem.now a.telegram.now (unnamed (goal.at.returns-in-Err c).In-Err)) (refused-told a.mem.now a.room.now (reason_of c.in-Err.e) c.refuse-in-Err.ensures)
