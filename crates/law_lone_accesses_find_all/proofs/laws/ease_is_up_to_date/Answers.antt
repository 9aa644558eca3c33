use Rattle.law_lone_accesses_find_all.proofs.EaseRuns.{ease_is_up_to_date}
use Rattle.law_lone_accesses_find_all.proofs.laws.ease_is_up_to_date.Goals as goal

pub returns : goal.returns
returns c = ease_is_up_to_date
