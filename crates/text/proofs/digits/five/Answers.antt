-- `text::digits::five` meets its contract: each place has its digit, or a space.
use Rattle.std.proofs.Common.{arith}
use Rattle.text.proofs.Decimal.{placed}
use Rattle.text.proofs.digits.five.Goals as goal

pub returns : goal.returns
returns c = rw (c.leading.ensures, c.leading-2.ensures, c.leading-3.ensures, c.leading-4.ensures, c.last_digit.ensures) (placed c.args.n (omega arith))
