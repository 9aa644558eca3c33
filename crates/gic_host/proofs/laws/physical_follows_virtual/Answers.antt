use Rattle.gic_host.proofs.SettleLemmas.{physical_follows}
use Rattle.gic_host.proofs.laws.physical_follows_virtual.Goals as goal

pub returns : goal.returns
returns c = physical_follows
