use Rattle.history_commands.proofs.BegunLaw.{commands_on}
use Rattle.history_commands.proofs.laws.commands_go_on.Goals as goal

pub returns : goal.returns
returns c = commands_on
