use Rattle.history_commands.proofs.BegunLaw.{maps_on}
use Rattle.history_commands.proofs.laws.maps_go_on.Goals as goal

pub returns : goal.returns
returns c = maps_on
