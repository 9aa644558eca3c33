use Rattle.vcpu_refill.proofs.ApartLemmas.{once}
use Rattle.vcpu_refill.proofs.laws.planned_once.Goals as goal

pub returns : goal.returns
returns c = once
