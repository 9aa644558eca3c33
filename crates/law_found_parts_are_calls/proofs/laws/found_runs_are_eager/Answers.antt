use Rattle.law_found_parts_are_calls.proofs.EagerRuns.{found_runs_are_eager}
use Rattle.law_found_parts_are_calls.proofs.laws.found_runs_are_eager.Goals as goal

pub returns : goal.returns
returns c = found_runs_are_eager
