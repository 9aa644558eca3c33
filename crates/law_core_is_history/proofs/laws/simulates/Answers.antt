use Rattle.law_core_is_history.proofs.HistorySteps.{runs_history}
use Rattle.law_core_is_history.proofs.laws.simulates.Goals as goal

pub returns : goal.returns
returns c = runs_history
