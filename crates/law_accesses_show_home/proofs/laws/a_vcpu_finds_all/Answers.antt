use Rattle.law_accesses_show_home.proofs.WorkedLemmas.{finds}
use Rattle.law_accesses_show_home.proofs.laws.a_vcpu_finds_all.Goals as goal

pub returns : goal.returns
returns c = finds
