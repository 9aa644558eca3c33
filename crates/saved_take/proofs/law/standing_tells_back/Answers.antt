use Rattle.saved_take.proofs.StandingBack.{standing_tells_back}
use Rattle.saved_take.proofs.law.standing_tells_back.Goals as goal

pub returns : goal.returns
returns c = standing_tells_back
