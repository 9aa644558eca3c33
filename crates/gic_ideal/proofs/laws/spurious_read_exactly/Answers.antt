use Rattle.gic_ideal.proofs.AnswerLemmas.{spurious_read}
use Rattle.gic_ideal.proofs.laws.spurious_read_exactly.Goals as goal

pub returns : goal.returns
returns c = spurious_read
