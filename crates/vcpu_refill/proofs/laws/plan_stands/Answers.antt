use Rattle.vcpu_refill.proofs.StandLemmas.{stands}
use Rattle.vcpu_refill.proofs.laws.plan_stands.Goals as goal

pub returns : goal.returns
returns c = stands
