use Rattle.law_histories.proofs.TargetsLaw.{targets_stand}
use Rattle.law_histories.proofs.laws.targets_stand.Goals as goal

pub returns : goal.returns
returns c = targets_stand
