use Rattle.law_runs_split.proofs.SplitLemmas.{runs_split}
use Rattle.law_runs_split.proofs.laws.runs_split.Goals as goal

pub returns : goal.returns
returns c = runs_split
