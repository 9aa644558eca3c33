use Rattle.history_commands.proofs.OpenedLaw.{may_go_on}
use Rattle.history_commands.proofs.laws.its_writes_may_go_on.Goals as goal

pub returns : goal.returns
returns c = may_go_on
