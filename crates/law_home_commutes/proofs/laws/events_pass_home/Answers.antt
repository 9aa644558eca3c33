use Rattle.law_home_commutes.proofs.HomeLaws.{events_pass_home}
use Rattle.law_home_commutes.proofs.laws.events_pass_home.Goals as goal

pub returns : goal.returns
returns c = events_pass_home
