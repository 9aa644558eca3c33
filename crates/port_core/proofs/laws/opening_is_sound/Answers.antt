use Rattle.port_core.proofs.OpeningLemmas.{opens_sound}
use Rattle.port_core.proofs.laws.opening_is_sound.Goals as goal

pub returns : goal.returns
returns c = opens_sound
