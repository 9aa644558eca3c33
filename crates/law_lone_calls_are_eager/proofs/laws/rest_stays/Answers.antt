use Rattle.law_lone_calls_are_eager.proofs.RestLaws.{rest_stays}
use Rattle.law_lone_calls_are_eager.proofs.laws.rest_stays.Goals as goal

pub returns : goal.returns
returns c = rest_stays
