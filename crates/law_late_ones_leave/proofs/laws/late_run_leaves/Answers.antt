use Rattle.law_late_ones_leave.proofs.WorkedRuns.{late_run_leaves}
use Rattle.law_late_ones_leave.proofs.laws.late_run_leaves.Goals as goal

pub returns : goal.returns
returns c = late_run_leaves
