use Rattle.law_core_is_history.proofs.EnableRuns.{runs_agree}
use Rattle.law_core_is_history.proofs.laws.enables_agree.Goals as goal

pub returns : goal.returns
returns c = runs_agree
