use Rattle.its_tab.proofs.KeptLemmas.{kept-without_device}
use Rattle.its_tab.proofs.tables.ItsTables.unmap_device.Goals as goal

pub invariant_of-self : goal.invariant_of-self
invariant_of-self c = kept-without_device c.self.invariant c.args.device c.take.new.pairs.cap c.self.view_is c.requires c.take.ensures.entries c.take.ensures.capacity
