-- By the commands, from the first one.
use Rattle.its_exec.proofs.RunLemmas.{taken_are_run}
use Rattle.its_exec.proofs.laws.taken_are_runs.Goals as goal

pub returns : goal.returns
returns c = taken_are_run
