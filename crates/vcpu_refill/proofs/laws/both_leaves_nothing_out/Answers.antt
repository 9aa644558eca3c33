use Rattle.vcpu_refill.proofs.LawLemmas.{both_leaves}
use Rattle.vcpu_refill.proofs.laws.both_leaves_nothing_out.Goals as goal

pub returns : goal.returns
returns c = both_leaves
