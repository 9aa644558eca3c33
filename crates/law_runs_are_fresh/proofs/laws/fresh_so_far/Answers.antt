use Rattle.law_runs_are_fresh.proofs.SoFarRuns.{fresh_so_far}
use Rattle.law_runs_are_fresh.proofs.laws.fresh_so_far.Goals as goal

pub returns : goal.returns
returns c = fresh_so_far
