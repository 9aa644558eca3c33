use Rattle.gic_ideal.proofs.LawLemmas.{deactivated_before}
use Rattle.gic_ideal.proofs.laws.deactivated_between.Goals as goal

pub returns : goal.returns
returns c = deactivated_before
