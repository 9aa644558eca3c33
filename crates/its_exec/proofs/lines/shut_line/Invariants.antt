-- So far a device was in the line.
use Rattle.its_exec.specs.Shut.{LeavesLine}
use Rattle.its_exec.proofs.lines.shut_line.Given as goal

abbrev pub invariant-loop : goal.invariant-loop
invariant-loop g l =
    (goal.iterator-loop g).can_next l.iterator' × (goal.iterator-loop g).is_finite l.iterator' × LeavesLine (g.P.Port.seen l.initial.port) (g.P.Port.seen l.port)
