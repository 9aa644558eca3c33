use Rattle.law_scans_miss_none.proofs.WantRuns.{wants_are_kept}
use Rattle.law_scans_miss_none.proofs.laws.wants_are_kept.Goals as goal

pub returns : goal.returns
returns c = wants_are_kept
