use Rattle.law_eager_is_history.proofs.AnswerLemmas.{eager_history}
use Rattle.law_eager_is_history.proofs.laws.eager_is_a_history.Goals as goal

pub returns : goal.returns
returns c = eager_history
