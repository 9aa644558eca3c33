use Rattle.law_discarded_stay_out.proofs.LineRuns.{discarded_out}
use Rattle.law_discarded_stay_out.proofs.laws.discarded_stay_out.Goals as goal

pub returns : goal.returns
returns c = discarded_out
