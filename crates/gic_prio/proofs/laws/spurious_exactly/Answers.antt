use Rattle.gic_prio.proofs.AnswerLemmas.{spurious}
use Rattle.gic_prio.proofs.laws.spurious_exactly.Goals as goal

pub returns : goal.returns
returns c = spurious
