use Rattle.gic_ideal.proofs.LawLemmas.{caused}
use Rattle.gic_ideal.proofs.laws.caused_between.Goals as goal

pub returns : goal.returns
returns c = caused
