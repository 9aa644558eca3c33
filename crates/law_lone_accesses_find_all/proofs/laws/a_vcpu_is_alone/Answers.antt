use Rattle.law_lone_accesses_find_all.proofs.WorkedLemmas.{alone}
use Rattle.law_lone_accesses_find_all.proofs.laws.a_vcpu_is_alone.Goals as goal

pub returns : goal.returns
returns c = alone
