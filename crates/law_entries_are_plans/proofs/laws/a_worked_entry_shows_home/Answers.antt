use Rattle.law_entries_are_plans.proofs.WorkedLemmas.{a_worked_entry_shows_home}
use Rattle.law_entries_are_plans.proofs.laws.a_worked_entry_shows_home.Goals as goal

pub returns : goal.returns
returns c = a_worked_entry_shows_home
