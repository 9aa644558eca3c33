use Rattle.law_late_ones_leave.proofs.EndRuns.{deactivations_are_fresh}
use Rattle.law_late_ones_leave.proofs.laws.deactivations_are_fresh.Goals as goal

pub returns : goal.returns
returns c = deactivations_are_fresh
