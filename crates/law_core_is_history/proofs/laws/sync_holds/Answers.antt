use Rattle.law_core_is_history.proofs.SyncRuns.{runs_hold}
use Rattle.law_core_is_history.proofs.laws.sync_holds.Goals as goal

pub returns : goal.returns
returns c = runs_hold
