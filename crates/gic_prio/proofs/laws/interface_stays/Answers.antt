use Rattle.gic_prio.proofs.EntryLemmas.{stays_interface}
use Rattle.gic_prio.proofs.laws.interface_stays.Goals as goal

pub returns : goal.returns
returns c = stays_interface
