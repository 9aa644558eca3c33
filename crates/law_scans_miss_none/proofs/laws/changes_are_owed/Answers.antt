use Rattle.law_scans_miss_none.proofs.SinceSteps.{changes_are_owed}
use Rattle.law_scans_miss_none.proofs.laws.changes_are_owed.Goals as goal

pub returns : goal.returns
returns c = changes_are_owed
