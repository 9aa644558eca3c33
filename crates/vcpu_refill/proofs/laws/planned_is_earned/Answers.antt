use Rattle.vcpu_refill.proofs.EarnedLemmas.{earned}
use Rattle.vcpu_refill.proofs.laws.planned_is_earned.Goals as goal

pub returns : goal.returns
returns c = earned
