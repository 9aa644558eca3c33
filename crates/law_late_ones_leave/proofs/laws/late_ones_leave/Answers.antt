use Rattle.law_late_ones_leave.proofs.LateRuns.{late_ones_leave}
use Rattle.law_late_ones_leave.proofs.laws.late_ones_leave.Goals as goal

pub returns : goal.returns
returns c = late_ones_leave
