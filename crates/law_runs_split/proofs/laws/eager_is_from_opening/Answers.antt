use Rattle.law_runs_split.proofs.SplitLemmas.{eager_is_from_opening}
use Rattle.law_runs_split.proofs.laws.eager_is_from_opening.Goals as goal

pub returns : goal.returns
returns c = eager_is_from_opening
