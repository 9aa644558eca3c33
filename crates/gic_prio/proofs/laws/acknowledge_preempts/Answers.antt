use Rattle.gic_prio.proofs.AnswerLemmas.{preempts}
use Rattle.gic_prio.proofs.laws.acknowledge_preempts.Goals as goal

pub returns : goal.returns
returns c = preempts
