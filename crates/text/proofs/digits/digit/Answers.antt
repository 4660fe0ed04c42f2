-- `text::digits::digit` meets its contract: by whether the digit is below ten.
use Rattle.std.proofs.Common.{arith, le-ltb, lt-ltb}
use Rattle.text.specs.Putting.{hex_digit}
use Rattle.text.proofs.digits.digit.Goals as goal

pub returns-then-d-lt10 : goal.returns-then-d-lt10
unfolding hex_digit
returns-then-d-lt10 c = simp (lt-ltb _ _ c.if-d-lt10.true)

pub returns-else-d-lt10 : goal.returns-else-d-lt10
unfolding hex_digit
returns-else-d-lt10 c = simp (le-ltb _ _ c.if-d-lt10.false) (omega arith)
