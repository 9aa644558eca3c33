use Rattle.gic_ideal.proofs.AnswerLemmas.{acknowledge_answers}
use Rattle.gic_ideal.proofs.laws.acknowledge_answers.Goals as goal

pub returns : goal.returns
returns c = acknowledge_answers
