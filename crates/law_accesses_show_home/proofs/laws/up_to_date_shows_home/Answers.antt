use Rattle.law_accesses_show_home.proofs.ShowRuns.{up_to_date_shows_home}
use Rattle.law_accesses_show_home.proofs.laws.up_to_date_shows_home.Goals as goal

pub returns : goal.returns
returns c = up_to_date_shows_home
