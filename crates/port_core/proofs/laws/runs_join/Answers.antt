use Rattle.port_core.proofs.RunLemmas.{runs_joined}
use Rattle.port_core.proofs.laws.runs_join.Goals as goal

pub returns : goal.returns
returns c = runs_joined
