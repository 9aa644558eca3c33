use Rattle.saved_take.proofs.BackLemmas.{states_tell_back}
use Rattle.saved_take.proofs.law.states_tell_back.Goals as goal

pub returns : goal.returns
returns c = states_tell_back
