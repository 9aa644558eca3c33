use Rattle.its_tab.proofs.KeptLemmas.{collection_room, kept-with_collection}
use Rattle.its_tab.proofs.tables.ItsTables.map_collection.Goals as goal

pub put-requires-clause-room : goal.put-requires-clause-room
put-requires-clause-room c = collection_room c.self.invariant c.args.icid c.args.vcpu c.self.inside.collections.len c.ranges.icid.fits c.self.inside.collections.ok.0

pub invariant_of-self : goal.invariant_of-self
invariant_of-self c = kept-with_collection c.self.invariant c.args.icid c.args.vcpu c.put.new.pairs.cap c.ranges.icid.fits c.put.ensures.entries c.put.ensures.capacity
