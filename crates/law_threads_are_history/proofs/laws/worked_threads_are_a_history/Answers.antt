use Rattle.law_threads_are_history.proofs.WorkedLemmas.{worked_threads_are_a_history}
use Rattle.law_threads_are_history.proofs.laws.worked_threads_are_a_history.Goals as goal

pub returns : goal.returns
returns c = worked_threads_are_a_history
