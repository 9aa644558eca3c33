use Rattle.law_scans_miss_none.proofs.FirstRuns.{first_comes_first}
use Rattle.law_scans_miss_none.proofs.laws.first_comes_first.Goals as goal

pub returns : goal.returns
returns c = first_comes_first
