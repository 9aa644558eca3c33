use Rattle.vcpu_refill.proofs.SortLemmas.{ordered_sorts}
use Rattle.vcpu_refill.proofs.laws.ordered_is_sorting.Goals as goal

pub returns : goal.returns
returns c = ordered_sorts
