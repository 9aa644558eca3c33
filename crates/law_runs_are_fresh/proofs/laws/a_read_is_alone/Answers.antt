use Rattle.law_runs_are_fresh.proofs.WorkedLemmas.{a_read_is_alone}
use Rattle.law_runs_are_fresh.proofs.laws.a_read_is_alone.Goals as goal

pub returns : goal.returns
returns c = a_read_is_alone
