use Rattle.law_ends_agree.proofs.EndRuns.{runs_end}
use Rattle.law_ends_agree.proofs.laws.runs_end_at_home.Goals as goal

pub returns : goal.returns
returns c = runs_end
