use Rattle.port_core.proofs.StepLemmas.{steps_sound}
use Rattle.port_core.proofs.laws.steps_keep_sound.Goals as goal

pub returns : goal.returns
returns c = steps_sound
