use Rattle.gic_ideal.proofs.AnswerLemmas.{runs}
use Rattle.gic_ideal.proofs.laws.acknowledge_runs.Goals as goal

pub returns : goal.returns
returns c = runs
