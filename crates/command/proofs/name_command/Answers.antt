-- `command::name_command` meets its contract: what the heading names has a payload of the right size.
-- Assumes nothing.
use Rattle.command.proofs.Naming.{headed-size}
use Rattle.command.proofs.name_command.Goals as goal

pub command_of-command-requires : goal.command_of-command-requires
command_of-command-requires c = headed-size _ _ _ (c.in_ok-cast.ensures c.args.s.now) c.requires
