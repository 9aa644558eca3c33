use Rattle.vcpu_refill.proofs.LawLemmas.{every_deliverable}
use Rattle.vcpu_refill.proofs.laws.every_deliverable_is_planned.Goals as goal

pub returns : goal.returns
returns c = every_deliverable
