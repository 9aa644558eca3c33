use Rattle.law_accesses_show_home.proofs.StayRuns.{stands_as_reached}
use Rattle.law_accesses_show_home.proofs.laws.stands_as_reached.Goals as goal

pub returns : goal.returns
returns c = stands_as_reached
