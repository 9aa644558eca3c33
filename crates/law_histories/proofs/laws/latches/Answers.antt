use Rattle.law_histories.proofs.LatchLaw.{latches}
use Rattle.law_histories.proofs.laws.latches.Goals as goal

pub returns : goal.returns
returns c = latches
