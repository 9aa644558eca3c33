use Rattle.law_runs_split.proofs.GoOnLemmas.{past_faults_do_not_matter}
use Rattle.law_runs_split.proofs.laws.past_faults_do_not_matter.Goals as goal

pub returns : goal.returns
returns c = past_faults_do_not_matter
