-- `text::digits::empty_places` meets its contract: by how many digits there are.
use Rattle.std.proofs.Common.{arith}
use Rattle.text.specs.Putting.{empty_places}
use Rattle.text.proofs.Decimal.{one, two, three, four, five}
use Rattle.text.proofs.digits.empty_places.Goals as goal

pub returns-in-0-to-9 : goal.returns-in-0-to-9
unfolding empty_places
returns-in-0-to-9 c = rw (one c.args.n (omega arith))

pub returns-in-10-to-99 : goal.returns-in-10-to-99
unfolding empty_places
returns-in-10-to-99 c = rw (two c.args.n (omega arith) (omega arith))

pub returns-in-100-to-999 : goal.returns-in-100-to-999
unfolding empty_places
returns-in-100-to-999 c = rw (three c.args.n (omega arith) (omega arith))

pub returns-in-1000-to-9999 : goal.returns-in-1000-to-9999
unfolding empty_places
returns-in-1000-to-9999 c = rw (four c.args.n (omega arith) (omega arith))

pub returns-in_default : goal.returns-in_default
unfolding empty_places
returns-in_default c = rw (five c.args.n (omega arith) (omega arith))
