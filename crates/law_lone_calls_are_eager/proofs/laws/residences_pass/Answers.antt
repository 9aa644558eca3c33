use Rattle.law_lone_calls_are_eager.proofs.IccLemmas.{residences_pass}
use Rattle.law_lone_calls_are_eager.proofs.laws.residences_pass.Goals as goal

pub returns : goal.returns
returns c = residences_pass
