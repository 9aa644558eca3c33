use Rattle.law_saves_go_on.proofs.ResumeLemmas.{saved_then_resumed}
use Rattle.law_saves_go_on.proofs.law.saved_then_resumed.Goals as goal

pub returns : goal.returns
returns c = saved_then_resumed
