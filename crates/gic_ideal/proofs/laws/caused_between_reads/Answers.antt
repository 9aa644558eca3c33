use Rattle.gic_ideal.proofs.AnswerLemmas.{caused_reads}
use Rattle.gic_ideal.proofs.laws.caused_between_reads.Goals as goal

pub returns : goal.returns
returns c = caused_reads
