use Rattle.std.proofs.Common.{◌≡◌}
use Rattle.std.specs.List.{filter_map, range_with_len}
use Rattle.history_calls.specs.Calls.{part_event}
use Rattle.history_calls.proofs.parts.part_events.Given as goal

-- the touches of the parts so far
abbrev pub invariant-loop-number : goal.invariant-loop-number
invariant-loop-number l = l.events ≡ filter_map (part_event l.shape l.frame l.kind l.first l.write) (range_with_len 0 l.number)
