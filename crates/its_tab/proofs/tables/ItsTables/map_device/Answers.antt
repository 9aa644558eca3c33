use Rattle.its_tab.proofs.KeptLemmas.{device_room, kept-with_device}
use Rattle.its_tab.proofs.tables.ItsTables.map_device.Goals as goal

pub put-requires-clause-room : goal.put-requires-clause-room
put-requires-clause-room c = device_room c.self.invariant c.args.device c.args.bits c.self.inside.devices.len c.requires.range c.self.inside.devices.ok.0

pub invariant_of-self : goal.invariant_of-self
invariant_of-self c = kept-with_device c.self.invariant c.args.device c.args.bits c.put.new.pairs.cap c.requires.range c.put.ensures.entries c.put.ensures.capacity
