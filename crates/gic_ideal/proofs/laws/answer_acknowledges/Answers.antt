use Rattle.gic_ideal.proofs.AnswerLemmas.{answered}
use Rattle.gic_ideal.proofs.laws.answer_acknowledges.Goals as goal

pub returns : goal.returns
returns c = answered
