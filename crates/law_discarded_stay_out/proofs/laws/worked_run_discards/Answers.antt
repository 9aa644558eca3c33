use Rattle.law_discarded_stay_out.proofs.WorkedLemmas.{worked_discard}
use Rattle.law_discarded_stay_out.proofs.laws.worked_run_discards.Goals as goal

pub returns : goal.returns
returns c = worked_discard
