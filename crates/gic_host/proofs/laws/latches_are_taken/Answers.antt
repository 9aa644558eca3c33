use Rattle.gic_host.proofs.SettleLemmas.{latches}
use Rattle.gic_host.proofs.laws.latches_are_taken.Goals as goal

pub returns : goal.returns
returns c = latches
