use Rattle.vcpu_refill.proofs.LawLemmas.{every_active}
use Rattle.vcpu_refill.proofs.laws.every_active_is_planned.Goals as goal

pub returns : goal.returns
returns c = every_active
