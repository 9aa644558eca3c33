use Rattle.std.proofs.Common.{is_some, sym, ap, ◌∙◌}
use Rattle.history_check.proofs.TrackLemmas.{none_named}
use Rattle.history_check.proofs.coming.has_named_it.Goals as goal

pub returns-in-None : goal.returns-in-None
returns-in-None c = none_named c.args.shape.now c.args.doings.now c.args.actor (sym c.get.ensures.lookup.0 ∙ ap is_some c.in-None.is)
