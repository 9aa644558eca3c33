use Rattle.law_threads_are_history.proofs.HistoryRuns.{threads_are_a_history}
use Rattle.law_threads_are_history.proofs.laws.threads_are_a_history.Goals as goal

pub returns : goal.returns
returns c = threads_are_a_history
