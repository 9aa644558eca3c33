use Rattle.gic_resume.proofs.KindLemmas.{images_have_shape}
use Rattle.gic_resume.proofs.laws.images_have_shape.Goals as goal

pub returns : goal.returns
returns c = images_have_shape
