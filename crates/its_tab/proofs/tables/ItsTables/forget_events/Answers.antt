use Rattle.std.proofs.Common.{◌<◌, length, sym, ap, ◌∙◌, subst}
use Rattle.its_tab.specs.Maps.{Maps}
use Rattle.its_tab.specs.After.{without_events}
use Rattle.its_tab.proofs.CarryLemmas.{without_events-without_event, without_events-none, fewer_events}
use Rattle.its_tab.proofs.tables.ItsTables.forget_events.Goals as goal

pub loop-event-smaller : goal.loop-event-smaller
loop-event-smaller c =
    subst (λ (maps : Maps). length maps.events < length c.loop-event.self.events) (sym c.unmap_event.ensures.value) (fewer_events c.loop-event.self (c.args.device, c.in-Some.event) c.in-Some.ensures.found)

pub loop-event-preserved : goal.loop-event-preserved
loop-event-preserved c = ap (λ maps. without_events maps c.args.device) c.unmap_event.ensures.value ∙ without_events-without_event c.loop-event.self c.args.device c.in-Some.event ∙ c.loop-event.invariant

pub returns : goal.returns
returns c = sym (without_events-none c.loop-event.self c.args.device (sym c.first_event.ensures.value ∙ c.in_default.is)) ∙ c.loop-event.invariant
