use Rattle.its_tab.proofs.KeptLemmas.{kept-empty, valid-empty}
use Rattle.its_tab.proofs.tables.ItsTables.of.Goals as goal

pub invariant_of-result : goal.invariant_of-result
invariant_of-result c =
    kept-empty _ c.in_ok-with_capacity.ensures.items c.in_ok-with_capacity-2.ensures.items c.in_ok-with_capacity-3.ensures.items c.in_ok-with_capacity-4.ensures.items
    (record { devices = c.in_ok-with_capacity.ensures.capacity; events = c.in_ok-with_capacity-2.ensures.capacity; collections = c.in_ok-with_capacity-3.ensures.capacity; owners = c.in_ok-with_capacity-4.ensures.capacity })

pub returns-clause-valid : goal.returns-clause-valid
returns-clause-valid c = λ shape. valid-empty shape c.in_ok-with_capacity.ensures.items c.in_ok-with_capacity-2.ensures.items c.in_ok-with_capacity-3.ensures.items
