use Rattle.law_home_commutes.proofs.HomeLaws.{accesses_pass_home}
use Rattle.law_home_commutes.proofs.laws.accesses_pass_home.Goals as goal

pub returns : goal.returns
returns c = accesses_pass_home
