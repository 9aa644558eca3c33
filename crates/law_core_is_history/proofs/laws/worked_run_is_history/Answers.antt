use Rattle.law_core_is_history.proofs.WorkedSteps.{worked_history_is}
use Rattle.law_core_is_history.proofs.laws.worked_run_is_history.Goals as goal

pub returns : goal.returns
returns c = worked_history_is
