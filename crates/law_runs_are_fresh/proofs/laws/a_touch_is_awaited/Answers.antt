use Rattle.law_runs_are_fresh.proofs.WorkedLemmas.{a_touch_is_awaited}
use Rattle.law_runs_are_fresh.proofs.laws.a_touch_is_awaited.Goals as goal

pub returns : goal.returns
returns c = a_touch_is_awaited
