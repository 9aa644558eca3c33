use Rattle.vcpu_refill.proofs.LawLemmas.{left_out}
use Rattle.vcpu_refill.proofs.laws.left_out_comes_after.Goals as goal

pub returns : goal.returns
returns c = left_out
