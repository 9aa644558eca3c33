use Rattle.law_late_ones_leave.proofs.WorkedRuns.{raised_run_stays}
use Rattle.law_late_ones_leave.proofs.laws.raised_run_stays.Goals as goal

pub returns : goal.returns
returns c = raised_run_stays
