use Rattle.std.proofs.Common.{is_some, sym, ap, ◌∙◌}
use Rattle.history_play.proofs.CourseLemmas.{none_busy}
use Rattle.history_play.proofs.verdict.is_busy.Goals as goal

pub returns-in-None : goal.returns-in-None
returns-in-None c = none_busy c.args.doings.now c.args.actor (sym c.get.ensures.lookup.0 ∙ ap is_some c.in-None.is)
