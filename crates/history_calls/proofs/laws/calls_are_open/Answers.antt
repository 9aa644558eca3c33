use Rattle.history_calls.proofs.OpenLaw.{calls_open}
use Rattle.history_calls.proofs.laws.calls_are_open.Goals as goal

pub returns : goal.returns
returns c = calls_open
