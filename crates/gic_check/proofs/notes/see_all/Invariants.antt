use Rattle.gic_check.proofs.LoopLemmas.{AreSeenTo}
use Rattle.gic_check.proofs.notes.see_all.Given as goal

abbrev pub invariant-loop-actor : goal.invariant-loop-actor
invariant-loop-actor l = AreSeenTo l.board l.fn.notes l.notes l.actor
