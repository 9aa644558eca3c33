use Rattle.law_histories.proofs.SyncLaw.{sync_holds}
use Rattle.law_histories.proofs.laws.sync_holds.Goals as goal

pub returns : goal.returns
returns c = sync_holds
