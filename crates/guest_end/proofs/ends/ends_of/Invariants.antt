-- The end lines of the first guests.
use Rattle.guest_end.proofs.EndsLemmas.{EndsSoFar}
use Rattle.guest_end.proofs.ends.ends_of.Given as goal

abbrev pub invariant-loop-guest : goal.invariant-loop-guest
invariant-loop-guest l = EndsSoFar l.spec-items l.words l.cpus l.rest l.ends l.guest
