use Rattle.gic_ideal.proofs.StepLemmas.{steps_can_follow}
use Rattle.gic_ideal.proofs.laws.steps_can_follow.Goals as goal

pub returns : goal.returns
returns c = steps_can_follow
