use Rattle.law_entries_are_plans.proofs.EntryRuns.{entries_show_home}
use Rattle.law_entries_are_plans.proofs.laws.entries_show_home.Goals as goal

pub returns : goal.returns
returns c = entries_show_home
