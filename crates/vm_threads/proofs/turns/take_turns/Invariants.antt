-- The port is the same actor's.
use Rattle.std.proofs.Common.{◌≡◌}
use Rattle.dev_port.specs.Core.{IsSameActor}
use Rattle.vm_threads.proofs.turns.take_turns.Given as goal

abbrev pub invariant-loop : goal.invariant-loop
invariant-loop g l =
    (goal.iterator-loop g).can_next l.iterator' × (goal.iterator-loop g).is_finite l.iterator'
    × IsSameActor (g.P.Port.seen l.fn.port) (g.P.Port.seen l.port) × ((g.P.Port.seen l.port).number ≡ 0)
