use Rattle.std.proofs.Common.{is_some, sym, ap, ◌∙◌}
use Rattle.history_check.proofs.TrackLemmas.{none_in}
use Rattle.history_check.proofs.track.is_in.Goals as goal

pub returns-in-None : goal.returns-in-None
returns-in-None c = none_in c.args.doings.now c.args.actor c.args.number (sym c.get.ensures.lookup.0 ∙ ap is_some c.in-None.is)
