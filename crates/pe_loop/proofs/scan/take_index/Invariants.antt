-- So many words were taken.
use Rattle.pe_loop.specs.Scanning.{IsTaking}
use Rattle.pe_loop.proofs.scan.take_index.Given as goal

abbrev pub invariant-loop-word : goal.invariant-loop-word
invariant-loop-word g l = IsTaking (g.P.Port.seen l.initial.port) (g.P.Port.seen l.port) l.word
