use Rattle.history_commands.proofs.BegunLaw.{commands_counted}
use Rattle.history_commands.proofs.laws.commands_are_counted.Goals as goal

pub returns : goal.returns
returns c = commands_counted
