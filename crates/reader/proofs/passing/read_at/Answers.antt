-- `reader::passing::read_at` meets its contract: what is accepted has the length that its index says. Assumes nothing.
use Rattle.std.proofs.Common.{◌≡◌, ℕ, ◌+◌, ◌-◌, length, take, drop, sym, ◌∙◌, subst, arith, length-drop, length-take-le}
use Rattle.std.specs.Prelude.{Some, Result, Ok, Err}
use Rattle.std.specs.Result.{result_ok}
use Rattle.telegram.specs.Numbers.{done, outcome_of}
use Rattle.telegram.specs.declared.Telegram.{Telegram}
use Rattle.telegram.specs.declared.Refusal.{Refusal}
use Rattle.telegram.specs.Telegram.{reading}
use Rattle.telegram.proofs.Reading.{accepted-count}
use Rattle.reader.proofs.passing.read_at.Goals as goal

-- what `ok` keeps was accepted
accepted : (r : Result Telegram Refusal) (t : Telegram) → result_ok r ≡ Some t → outcome_of r ≡ done t
accepted (Ok x) t e = cc
accepted (Err x) t e = cc

pub returns : goal.returns
returns c t e =
    let l = drop c.args.at c.args.chunk.now in
    let k = c.args.at + (4 + c.size_of-total.result) - c.args.at in
    let q : reading (take k l) ≡ done t = sym c.read_telegram.ensures ∙ accepted c.read_telegram.result t (sym c.ok.ensures.value ∙ e) in
    let d : length l ≡ length c.args.chunk.now - c.args.at = length-drop c.args.at c.args.chunk.now in
    let n : length (take k l) ≡ k = length-take-le k l (omega arith) in
    subst (λ (m : ℕ). reading (take m l) ≡ done t) (sym n ∙ accepted-count (take k l) t q) q
