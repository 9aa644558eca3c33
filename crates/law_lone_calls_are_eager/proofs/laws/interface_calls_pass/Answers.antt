use Rattle.law_lone_calls_are_eager.proofs.IccLemmas.{interface_calls_pass}
use Rattle.law_lone_calls_are_eager.proofs.laws.interface_calls_pass.Goals as goal

pub returns : goal.returns
returns c = interface_calls_pass
