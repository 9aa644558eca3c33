use Rattle.law_lone_calls_are_eager.proofs.AccessLemmas.{distributor_calls_pass}
use Rattle.law_lone_calls_are_eager.proofs.laws.distributor_calls_pass.Goals as goal

pub returns : goal.returns
returns c = distributor_calls_pass
