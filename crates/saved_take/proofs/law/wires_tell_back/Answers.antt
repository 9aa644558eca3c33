use Rattle.saved_take.proofs.BackLemmas.{wires_tell_back}
use Rattle.saved_take.proofs.law.wires_tell_back.Goals as goal

pub returns : goal.returns
returns c = wires_tell_back
