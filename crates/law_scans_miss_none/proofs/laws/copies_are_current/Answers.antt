use Rattle.law_scans_miss_none.proofs.CopySteps.{copies_are_current}
use Rattle.law_scans_miss_none.proofs.laws.copies_are_current.Goals as goal

pub returns : goal.returns
returns c = copies_are_current
