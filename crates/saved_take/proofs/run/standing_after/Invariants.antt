-- The first steps are followed, and the others have no fault.
use Rattle.saved_take.proofs.RunLemmas.{FollowsSoFar}
use Rattle.saved_take.proofs.run.standing_after.Given as goal

abbrev pub invariant-loop-step : goal.invariant-loop-step
invariant-loop-step l = FollowsSoFar l.scenario l.first l.step-index l.standing
