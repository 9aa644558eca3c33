use Rattle.law_accesses_show_home.proofs.UpToDateRuns.{stays_up_to_date}
use Rattle.law_accesses_show_home.proofs.laws.stays_up_to_date.Goals as goal

pub returns : goal.returns
returns c = stays_up_to_date
