use Rattle.history_commands.proofs.BeginLaw.{taking_begin}
use Rattle.history_commands.proofs.laws.taking_calls_begin.Goals as goal

pub returns : goal.returns
returns c = taking_begin
