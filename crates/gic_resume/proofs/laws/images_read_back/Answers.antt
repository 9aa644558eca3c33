use Rattle.gic_resume.proofs.BackLemmas.{images_read_back}
use Rattle.gic_resume.proofs.laws.images_read_back.Goals as goal

pub returns : goal.returns
returns c = images_read_back
