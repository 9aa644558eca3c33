use Rattle.std.proofs.Common.{refl, arith}
use Rattle.its_tab.proofs.IndexLemmas.{empty_indexed}
use Rattle.its_tab.proofs.tables.ItsTables.clear.Goals as goal

pub invariant_of-self : goal.invariant_of-self
invariant_of-self c =
    rw (c.clear.ensures.items, c.clear-2.ensures.items, c.clear-3.ensures.items, c.clear-4.ensures.items)
    (record {
      indexed = empty_indexed;
      fit = record { devices = tt; collections = tt; lpis = tt; one_each = refl };
      enough = record {
        devices = omega (arith, c.clear.ensures.capacity, c.self.invariant.enough.devices);
        events = omega (arith, c.clear-2.ensures.capacity, c.self.invariant.enough.events);
        collections = omega (arith, c.clear-3.ensures.capacity, c.self.invariant.enough.collections);
        owners = omega (arith, c.clear-4.ensures.capacity, c.self.invariant.enough.owners);
      };
    })
