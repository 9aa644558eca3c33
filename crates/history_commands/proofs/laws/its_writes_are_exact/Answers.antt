use Rattle.history_commands.proofs.WriteLaw.{writes_exact}
use Rattle.history_commands.proofs.laws.its_writes_are_exact.Goals as goal

pub returns : goal.returns
returns c = writes_exact
