-- None is before the bit to which the search came.
use Rattle.pe_loop.specs.Candidates.{NoneBefore}
use Rattle.pe_loop.proofs.candidates.next_candidate.Given as goal

abbrev pub invariant-loop-word : goal.invariant-loop-word
invariant-loop-word l = NoneBefore l.cands l.from l.word l.low
