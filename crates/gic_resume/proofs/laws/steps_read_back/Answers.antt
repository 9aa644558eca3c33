use Rattle.gic_resume.proofs.StepLemmas.{steps_read_back}
use Rattle.gic_resume.proofs.laws.steps_read_back.Goals as goal

pub returns : goal.returns
returns c = steps_read_back
