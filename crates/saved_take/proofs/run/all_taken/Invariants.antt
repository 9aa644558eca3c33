-- What is saved of the first guests, and the wires of the others.
use Rattle.saved_take.proofs.RunLemmas.{TakesSoFar}
use Rattle.saved_take.proofs.run.all_taken.Given as goal

abbrev pub invariant-loop-number : goal.invariant-loop-number
invariant-loop-number l = TakesSoFar l.guests l.standing l.states l.wires l.list l.number
