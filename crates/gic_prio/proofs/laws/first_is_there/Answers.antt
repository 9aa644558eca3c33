use Rattle.gic_prio.proofs.FirstLemmas.{first_there}
use Rattle.gic_prio.proofs.laws.first_is_there.Goals as goal

pub returns : goal.returns
returns c = first_there
