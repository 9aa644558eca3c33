use Rattle.law_histories.proofs.EnableLaw.{enables_agree}
use Rattle.law_histories.proofs.laws.enables_agree.Goals as goal

pub returns : goal.returns
returns c = enables_agree
