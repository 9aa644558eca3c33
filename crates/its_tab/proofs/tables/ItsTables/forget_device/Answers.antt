use Rattle.std.proofs.Common.{ap, ◌∙◌}
use Rattle.its_tab.specs.Maps.{first_event}
use Rattle.its_tab.proofs.CarryLemmas.{first_event-without_events}
use Rattle.its_tab.proofs.tables.ItsTables.forget_device.Goals as goal

pub unmap_device-requires : goal.unmap_device-requires
unmap_device-requires c = ap (λ maps. first_event maps c.args.device) c.forget_events.ensures ∙ first_event-without_events c.args.self.now c.args.device
