use Rattle.law_eager_is_history.proofs.AnswerLemmas.{eager_possible}
use Rattle.law_eager_is_history.proofs.laws.eager_is_possible.Goals as goal

pub returns : goal.returns
returns c = eager_possible
