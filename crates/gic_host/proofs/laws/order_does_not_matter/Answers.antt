use Rattle.gic_host.proofs.SettleLemmas.{any_order}
use Rattle.gic_host.proofs.laws.order_does_not_matter.Goals as goal

pub returns : goal.returns
returns c = any_order
