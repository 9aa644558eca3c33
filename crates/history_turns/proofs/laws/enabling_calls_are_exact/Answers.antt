use Rattle.history_turns.proofs.MayLaw.{exact}
use Rattle.history_turns.proofs.laws.enabling_calls_are_exact.Goals as goal

pub returns : goal.returns
returns c = exact
