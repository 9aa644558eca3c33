use Rattle.gic_frame.proofs.JoinLemmas.{joining_undoes_cutting}
use Rattle.gic_frame.proofs.parts.joining_undoes_cutting.Goals as goal

pub returns : goal.returns
returns c = joining_undoes_cutting
