use Rattle.its_tab.proofs.KeptLemmas.{kept-without_collection}
use Rattle.its_tab.proofs.tables.ItsTables.unmap_collection.Goals as goal

pub invariant_of-self : goal.invariant_of-self
invariant_of-self c = kept-without_collection c.self.invariant c.args.icid c.take.new.pairs.cap c.take.ensures.entries c.take.ensures.capacity
