use Rattle.law_histories.proofs.HeldLaw.{bases_are_held}
use Rattle.law_histories.proofs.laws.bases_are_held.Goals as goal

pub returns : goal.returns
returns c = bases_are_held
