use Rattle.law_accesses_show_home.proofs.DoneRuns.{changes_are_done}
use Rattle.law_accesses_show_home.proofs.laws.changes_are_done.Goals as goal

pub returns : goal.returns
returns c = changes_are_done
