use Rattle.std.proofs.Common.{◌≡◌, sym, subst}
use Rattle.history_check.specs.GicCall.declared.event.Event.TheVariants.{Queue}
use Rattle.history_check.specs.GicCall.declared.event.Found.TheVariants.{Nothing}
use Rattle.history_check.specs.Histories.{happened}
use Rattle.history_play.proofs.CourseLemmas.{faultless}
use Rattle.history_play.proofs.after.change_queue.Goals as goal

pub finish-requires-clause-good : goal.finish-requires-clause-good
finish-requires-clause-good c = faultless c.args.state.now c.args.actor c.args.offset c.args.change c.in-Done.words Nothing c.in-Done.is (c.requires.known Nothing)

pub returns-in-Done-clause-value : goal.returns-in-Done-clause-value
returns-in-Done-clause-value c =
    subst (λ change. c.finish.new.self ≡ happened c.args.actor (Queue c.args.offset change) c.args.state.now) (sym c.in-Done.is) (c.finish.ensures.value c.args.actor)
