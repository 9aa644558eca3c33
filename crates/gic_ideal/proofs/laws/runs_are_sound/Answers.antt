use Rattle.gic_ideal.proofs.StepLemmas.{runs_sound}
use Rattle.gic_ideal.proofs.laws.runs_are_sound.Goals as goal

pub returns : goal.returns
returns c = runs_sound
