-- So far each try missed.
use Rattle.pe_mem.specs.Ctlr.{MissesMark}
use Rattle.pe_mem.proofs.ctlr.take_mark.Given as goal

abbrev pub invariant-loop : goal.invariant-loop
invariant-loop g l =
    (goal.iterator-loop g).can_next l.iterator' × (goal.iterator-loop g).is_finite l.iterator' × MissesMark (g.P.Port.seen l.initial.port) (g.P.Port.seen l.port)
