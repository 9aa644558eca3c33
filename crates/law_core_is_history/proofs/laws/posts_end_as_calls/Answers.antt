use Rattle.law_core_is_history.proofs.PartRuns.{posts_end}
use Rattle.law_core_is_history.proofs.laws.posts_end_as_calls.Goals as goal

pub returns : goal.returns
returns c = posts_end
