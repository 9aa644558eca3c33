use Rattle.gic_prio.proofs.FirstLemmas.{first_is}
use Rattle.gic_prio.proofs.laws.first_is_least.Goals as goal

pub returns : goal.returns
returns c = first_is
