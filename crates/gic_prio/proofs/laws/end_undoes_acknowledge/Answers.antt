use Rattle.gic_prio.proofs.EndLemmas.{ended_raised}
use Rattle.gic_prio.proofs.laws.end_undoes_acknowledge.Goals as goal

pub returns : goal.returns
returns c = ended_raised
