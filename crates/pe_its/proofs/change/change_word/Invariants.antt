-- So far each try missed.
use Rattle.pe_mem.specs.PortCall.Store.{MissesStore}
use Rattle.pe_its.proofs.change.change_word.Given as goal

abbrev pub invariant-loop : goal.invariant-loop
invariant-loop g l =
    (goal.iterator-loop g).can_next l.iterator' × (goal.iterator-loop g).is_finite l.iterator' × MissesStore (g.P.Port.seen l.initial.port) (g.P.Port.seen l.port) l.initial.word
