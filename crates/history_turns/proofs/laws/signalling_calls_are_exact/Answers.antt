use Rattle.history_turns.proofs.SignalCalls.{exact}
use Rattle.history_turns.proofs.laws.signalling_calls_are_exact.Goals as goal

pub returns : goal.returns
returns c = exact
