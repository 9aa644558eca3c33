-- One more step is followed.
use Rattle.std.proofs.Common.{length, ap, ◌∙◌, arith}
use Rattle.saved_guest.specs.ScnSaved.ScnBase.declared.step.Mode.TheVariants.{Schedule}
use Rattle.saved_guest.specs.IdealGuests.Calls.{shapes_of}
use Rattle.saved_guest.specs.ScnSaved.ScnBase.Standing.{opening_standing}
use Rattle.saved_take.proofs.RunLemmas.{follows_all, follows_more, follows_none, next_clean}
use Rattle.saved_take.proofs.run.standing_after.Goals as goal

pub loop-step-init : goal.loop-step-init
loop-step-init c = follows_none c.args.scenario.now (length c.args.first.now) c.args.first.now c.in_ok-standing.standing c.requires.good c.requires.first (c.in_ok-standing.ensures.value ∙ ap (λ guests. opening_standing c.args.scenario.now.pes (shapes_of guests)) c.as_slice.ensures) c.in_ok-standing.ensures.fine

pub follow-requires-clause-good : goal.follow-requires-clause-good
follow-requires-clause-good c = (Schedule, next_clean c.args.scenario.now c.args.first.now c.loop-step.step-index c.loop-step.standing c.loop-step.invariant _ (omega arith))

pub loop-step-preserved : goal.loop-step-preserved
loop-step-preserved c = follows_more c.args.scenario.now c.args.first.now c.loop-step.step-index c.loop-step.standing c.loop-step.invariant _ (omega arith) c.follow.new.self c.follow.ensures.value c.follow.ensures.fine

pub returns-clause-value : goal.returns-clause-value
returns-clause-value c = follows_all c.args.scenario.now c.args.first.now c.loop-step.step-index c.loop-step.standing c.loop-step.invariant (omega arith)
