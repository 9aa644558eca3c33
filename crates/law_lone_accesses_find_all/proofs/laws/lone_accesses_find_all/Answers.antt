use Rattle.law_lone_accesses_find_all.proofs.LoneRuns.{lone_accesses_find_all}
use Rattle.law_lone_accesses_find_all.proofs.laws.lone_accesses_find_all.Goals as goal

pub returns : goal.returns
returns c = lone_accesses_find_all
