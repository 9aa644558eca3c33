use Rattle.vcpu_refill.proofs.EarnedLemmas.{others}
use Rattle.vcpu_refill.proofs.laws.others_do_not_matter.Goals as goal

pub returns : goal.returns
returns c = others
