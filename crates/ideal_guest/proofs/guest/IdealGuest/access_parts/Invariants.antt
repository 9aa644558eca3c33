use Rattle.std.proofs.Common.{◌≡◌}
use Rattle.floor_calls.specs.Calls.{part_event, part_events}
use Rattle.ideal_guest.proofs.EachLemmas.{found_from, IsUnderway}
use Rattle.ideal_guest.proofs.guest.IdealGuest.access_parts.Given as goal

-- the touches of the parts that are left
abbrev pub invariant-loop-number : goal.invariant-loop-number
invariant-loop-number l =
    let guest = l.fn.self in
    record {
      shape : l.shape ≡ guest.shape;
      way : IsUnderway guest (part_events guest.shape l.frame l.kind l.first l.count l.write) (found_from (part_event guest.shape l.frame l.kind l.first l.write) l.number l.count) l.self;
    }
