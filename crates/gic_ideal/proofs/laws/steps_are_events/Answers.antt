use Rattle.gic_ideal.proofs.StepLemmas.{steps_are_events}
use Rattle.gic_ideal.proofs.laws.steps_are_events.Goals as goal

pub returns : goal.returns
returns c = steps_are_events
