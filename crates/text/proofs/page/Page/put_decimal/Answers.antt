-- `text::Page::put_decimal` meets its contract: the word is the five places without the empty ones, or the kit's digits.
use Rattle.std.proofs.Common.{drop, ◌∙◌, ap₂, arith}
use Rattle.text.proofs.Decimal.{unplaced, kit-decimal}
use Rattle.text.proofs.page.Page.put_decimal.Goals as goal

pub returns-then-n-lt65536-clause-put : goal.returns-then-n-lt65536-clause-put
returns-then-n-lt65536-clause-put c =
    let e = c.from.ensures ∙ ap₂ drop c.empty_places.ensures c.five-short.ensures ∙ unplaced _ in
    rw e at c.put.ensures.put

pub returns-clause-put : goal.returns-clause-put
returns-clause-put c =
    let e = c.decimal-k.ensures.digits ∙ kit-decimal _ _ c.decimal-k.ensures.len (omega arith) in
    rw e at c.put-2.ensures.put
