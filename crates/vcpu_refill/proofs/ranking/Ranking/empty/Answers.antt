use Rattle.std.proofs.Common.{refl}
use Rattle.vcpu_refill.specs.Ranking.{in_places}
use Rattle.vcpu_refill.proofs.ranking.Ranking.empty.Goals as goal

pub returns : goal.returns
unfolding in_places
returns c = refl
