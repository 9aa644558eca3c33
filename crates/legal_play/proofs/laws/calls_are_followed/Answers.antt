use Rattle.legal_play.proofs.CallsLaw.{followed}
use Rattle.legal_play.proofs.laws.calls_are_followed.Goals as goal

pub returns : goal.returns
returns c = followed
