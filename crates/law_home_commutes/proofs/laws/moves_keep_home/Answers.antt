use Rattle.law_home_commutes.proofs.HomeLaws.{moves_keep_home}
use Rattle.law_home_commutes.proofs.laws.moves_keep_home.Goals as goal

pub returns : goal.returns
returns c = moves_keep_home
