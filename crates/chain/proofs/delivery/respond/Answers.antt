-- `chain::delivery::respond` meets its contract: what is permitted is sent, the rest refused.
-- Assumes nothing.
use mathlib.Core.Path.{◌≡◌, ◌∙◌, ap, sym}
use Rattle.std.specs.Prelude.{Result}
use Rattle.std.proofs.lemmas.Result.{err_from_is_err_and}
use Rattle.telegram.specs.declared.Refusal.{Refusal}
use Rattle.rules.specs.Chain.{permitting}
use Rattle.chain.specs.Record.{decode}
use Rattle.chain.specs.Helpers.{permit_as, sent_in}
use Rattle.chain.proofs.Validity.{chain-in}
use Rattle.chain.proofs.Responding.{told, told-as}
use Rattle.chain.proofs.Inits.{respond-granted, respond-refused}
use borrow.Author.Rules.{rules}
use Rattle.chain.proofs.delivery.respond.Goals as goal
use Rattle.chain.proofs.delivery.respond.Goals.{After-permit}

-- what was permitted, and what was not
permitted : {r : Result Unit Refusal} (c : After-permit) → let a = c.args in
    let t = sent_in a.order.number a.order.payload.now a.order.cast in
    c.permit.result ≡ r → permitting (decode a.mem.now).lamps t ≡ permit_as r t
permitted c e =
    let a = c.args in
    sym (c.permit.ensures) ∙ ap (λ (r : Result Unit Refusal). permit_as r (sent_in a.order.number a.order.payload.now a.order.cast)) e

pub returns : goal.returns
returns c = let a = c.args in
    told-as a.mem.now a.room.now
    (sym (respond-granted a.mem.now (search rules) (chain-in _ _ c.requires) (sent_in a.order.number a.order.payload.now a.order.cast) (permitted (goal.at.returns c).After-permit c.in_ok-permit.was)))
    c.send.ensures

pub returns-in_err-permit : goal.returns-in_err-permit
returns-in_err-permit c = let a = c.args in
    let p = err_from_is_err_and c.from_residual.result c.from_residual.ensures.1 in
    rw (p.1, p.2) (told (respond-refused a.mem.now (search rules) (chain-in _ _ c.requires) (sent_in a.order.number a.order.payload.now a.order.cast) a.room.now (permitted (goal.at.returns-in_err-permit c).After-permit c.in_err-permit.was)))
