use Rattle.law_ends_agree.proofs.WorkedRuns.{worked_end}
use Rattle.law_ends_agree.proofs.laws.worked_runs_end.Goals as goal

pub returns : goal.returns
returns c = worked_end
