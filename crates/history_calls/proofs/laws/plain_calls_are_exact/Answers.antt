use Rattle.history_calls.proofs.ExactLaw.{exact}
use Rattle.history_calls.proofs.laws.plain_calls_are_exact.Goals as goal

pub returns : goal.returns
returns c = exact
