use Rattle.std.proofs.Common.{◌∙◌, sym}
use Rattle.its_tab.proofs.KeptLemmas.{kept-taken}
use Rattle.its_tab.proofs.tables.ItsTables.unmap_event.Goals as goal

pub invariant_of-self : goal.invariant_of-self
invariant_of-self c = kept-taken c.self.invariant (c.args.device, c.args.event) (c.in-Some.id, c.in-Some.field-0-1) c.self.view_is (sym c.in-Some.is ∙ c.take.ensures.value) c.take.ensures.entries c.take-in-Some.ensures.entries c.take.ensures.capacity c.take-in-Some.ensures.capacity
