use Rattle.ideal_guest.proofs.QueueLemmas.{all_run_dry}
use Rattle.ideal_guest.proofs.its.queues_run_dry.Goals as goal

pub returns : goal.returns
returns c = all_run_dry
