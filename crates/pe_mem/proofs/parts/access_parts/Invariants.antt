-- The parts so far.
use Rattle.pe_mem.proofs.PartsLemmas.{PartsSoFar}
use Rattle.pe_mem.proofs.parts.access_parts.Given as goal

abbrev pub invariant-loop-number : goal.invariant-loop-number
invariant-loop-number g l = PartsSoFar (g.P.Port.seen l.initial.port) (g.P.Port.seen l.port) l.frame l.kind l.first l.number l.write l.value
