use Rattle.law_saved_runs_are_valid.proofs.RunLemmas.{saved_runs_are_resumed}
use Rattle.law_saved_runs_are_valid.proofs.law.saved_runs_are_resumed.Goals as goal

pub returns : goal.returns
returns c = saved_runs_are_resumed
