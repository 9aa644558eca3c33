use Rattle.law_scans_miss_none.proofs.FarSteps.{far_ends_are_known}
use Rattle.law_scans_miss_none.proofs.laws.far_ends_are_known.Goals as goal

pub returns : goal.returns
returns c = far_ends_are_known
