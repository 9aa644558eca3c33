use Rattle.std.proofs.Common.{◌≡◌, length}
use Rattle.its_tab.specs.After.{without_events}
use Rattle.its_tab.proofs.tables.ItsTables.forget_events.Given as goal

-- what is left without the device's events is the same
abbrev pub invariant-loop-event : goal.invariant-loop-event
invariant-loop-event l = without_events l.self l.device ≡ without_events l.initial.self l.device

abbrev pub decreases-loop-event : goal.decreases-loop-event
decreases-loop-event l = length l.self.events
