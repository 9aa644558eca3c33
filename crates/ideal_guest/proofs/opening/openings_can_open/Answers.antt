use Rattle.ideal_guest.proofs.CanOpenLemmas.{openings_can_open}
use Rattle.ideal_guest.proofs.opening.openings_can_open.Goals as goal

pub returns : goal.returns
returns c = openings_can_open
