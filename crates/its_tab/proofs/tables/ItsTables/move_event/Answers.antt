use Rattle.std.proofs.Common.{sym, ◌∙◌}
use Rattle.its_tab.proofs.CarryLemmas.{own_event}
use Rattle.its_tab.proofs.KeptLemmas.{lpi_of}
use Rattle.its_tab.proofs.tables.ItsTables.move_event.Goals as goal

pub map_event-requires-clause-mapped : goal.map_event-requires-clause-mapped
map_event-requires-clause-mapped c = (own_event (c.args.device, c.args.event) (c.in-Some.id, c.in-Some.field-0-1) c.self.view_is c.self.invariant.indexed.sound (sym c.get.ensures ∙ c.in-Some.is)).0

pub map_event-requires-clause-free : goal.map_event-requires-clause-free
map_event-requires-clause-free c = (own_event (c.args.device, c.args.event) (c.in-Some.id, c.in-Some.field-0-1) c.self.view_is c.self.invariant.indexed.sound (sym c.get.ensures ∙ c.in-Some.is)).1

pub map_event-requires-clause-lpi : goal.map_event-requires-clause-lpi
map_event-requires-clause-lpi c = lpi_of c.self.invariant (c.args.device, c.args.event) (c.in-Some.id, c.in-Some.field-0-1) (sym c.get.ensures ∙ c.in-Some.is)
