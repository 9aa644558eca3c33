use Rattle.law_runs_are_fresh.proofs.FreshRuns.{fresh_runs}
use Rattle.law_runs_are_fresh.proofs.laws.fresh_runs.Goals as goal

pub returns : goal.returns
returns c = fresh_runs
