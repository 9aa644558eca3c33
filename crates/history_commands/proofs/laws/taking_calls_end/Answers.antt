use Rattle.history_commands.proofs.TakingLaw.{taking_end}
use Rattle.history_commands.proofs.laws.taking_calls_end.Goals as goal

pub returns : goal.returns
returns c = taking_end
