use Rattle.vcpu_state.proofs.BackLemmas.{comes_back}
use Rattle.vcpu_state.proofs.laws.each_comes_back.Goals as goal

pub returns : goal.returns
returns c = comes_back
