use Rattle.law_lone_calls_are_eager.proofs.AccessLemmas.{redistributor_calls_pass}
use Rattle.law_lone_calls_are_eager.proofs.laws.redistributor_calls_pass.Goals as goal

pub returns : goal.returns
returns c = redistributor_calls_pass
