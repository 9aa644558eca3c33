use Rattle.law_threads_are_history.proofs.WeaveRuns.{threads_weave}
use Rattle.law_threads_are_history.proofs.laws.threads_weave.Goals as goal

pub returns : goal.returns
returns c = threads_weave
