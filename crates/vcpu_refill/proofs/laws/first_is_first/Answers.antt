use Rattle.vcpu_refill.proofs.FirstLemmas.{first}
use Rattle.vcpu_refill.proofs.laws.first_is_first.Goals as goal

pub returns : goal.returns
returns c = first
