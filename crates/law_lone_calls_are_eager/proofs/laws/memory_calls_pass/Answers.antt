use Rattle.law_lone_calls_are_eager.proofs.AccessLemmas.{memory_calls_pass}
use Rattle.law_lone_calls_are_eager.proofs.laws.memory_calls_pass.Goals as goal

pub returns : goal.returns
returns c = memory_calls_pass
