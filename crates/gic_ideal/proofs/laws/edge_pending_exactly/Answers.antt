use Rattle.gic_ideal.proofs.AnswerLemmas.{edge_pending}
use Rattle.gic_ideal.proofs.laws.edge_pending_exactly.Goals as goal

pub returns : goal.returns
returns c = edge_pending
