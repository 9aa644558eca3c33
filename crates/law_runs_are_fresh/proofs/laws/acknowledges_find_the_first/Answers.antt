use Rattle.law_runs_are_fresh.proofs.FirstRuns.{acknowledges_find_the_first}
use Rattle.law_runs_are_fresh.proofs.laws.acknowledges_find_the_first.Goals as goal

pub returns : goal.returns
returns c = acknowledges_find_the_first
