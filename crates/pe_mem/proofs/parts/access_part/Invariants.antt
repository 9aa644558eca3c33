-- So far each try missed.
use Rattle.its_exec.specs.PortCall.Touch.{Tries}
use Rattle.pe_mem.proofs.parts.access_part.Given as goal

abbrev pub invariant-loop : goal.invariant-loop
invariant-loop g l =
    (goal.iterator-loop g).can_next l.iterator' × (goal.iterator-loop g).is_finite l.iterator' × Tries (g.P.Port.seen l.initial.port) (g.P.Port.seen l.port) l.initial.key
