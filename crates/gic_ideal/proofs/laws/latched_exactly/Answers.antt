use Rattle.gic_ideal.proofs.LawLemmas.{latched_exactly}
use Rattle.gic_ideal.proofs.laws.latched_exactly.Goals as goal

pub returns : goal.returns
returns c = latched_exactly
