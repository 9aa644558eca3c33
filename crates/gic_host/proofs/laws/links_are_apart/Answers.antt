use Rattle.gic_host.proofs.SettleLemmas.{apart}
use Rattle.gic_host.proofs.laws.links_are_apart.Goals as goal

pub returns : goal.returns
returns c = apart
