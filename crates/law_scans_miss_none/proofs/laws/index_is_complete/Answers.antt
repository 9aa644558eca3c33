use Rattle.law_scans_miss_none.proofs.IndexRuns.{runs_complete}
use Rattle.law_scans_miss_none.proofs.laws.index_is_complete.Goals as goal

pub returns : goal.returns
returns c = runs_complete
