use Rattle.law_core_is_history.proofs.LatchRuns.{runs_latch}
use Rattle.law_core_is_history.proofs.laws.latches.Goals as goal

pub returns : goal.returns
returns c = runs_latch
