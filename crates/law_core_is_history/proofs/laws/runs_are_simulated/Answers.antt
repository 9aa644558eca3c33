use Rattle.law_core_is_history.proofs.RunSteps.{runs_simulate}
use Rattle.law_core_is_history.proofs.laws.runs_are_simulated.Goals as goal

pub returns : goal.returns
returns c = runs_simulate
