use Rattle.gic_ideal.proofs.LawLemmas.{takes_cause}
use Rattle.gic_ideal.proofs.laws.acknowledge_takes_cause.Goals as goal

pub returns : goal.returns
returns c = takes_cause
