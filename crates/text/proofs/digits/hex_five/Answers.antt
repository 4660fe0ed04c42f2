-- `text::digits::hex_five` meets its contract: each place has its digit.
use Rattle.text.specs.Putting.{in_hex}
use Rattle.text.proofs.digits.hex_five.Goals as goal

pub returns : goal.returns
unfolding in_hex
returns c = cc
