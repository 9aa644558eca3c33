use Rattle.law_lone_calls_are_eager.proofs.CallLaws.{its_calls_pass}
use Rattle.law_lone_calls_are_eager.proofs.laws.its_calls_pass.Goals as goal

pub returns : goal.returns
returns c = its_calls_pass
