use Rattle.trace_told.proofs.FaultlessLaw.{faultless}
use Rattle.trace_told.proofs.laws.told_ones_are_faultless.Goals as goal

pub returns : goal.returns
returns c = faultless
