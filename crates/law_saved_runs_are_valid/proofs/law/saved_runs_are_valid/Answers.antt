use Rattle.law_saved_runs_are_valid.proofs.RunLemmas.{saved_runs_are_valid}
use Rattle.law_saved_runs_are_valid.proofs.law.saved_runs_are_valid.Goals as goal

pub returns : goal.returns
returns c = saved_runs_are_valid
