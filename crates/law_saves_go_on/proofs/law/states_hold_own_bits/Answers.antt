use Rattle.law_saves_go_on.proofs.StoredLemmas.{states_hold_own_bits}
use Rattle.law_saves_go_on.proofs.law.states_hold_own_bits.Goals as goal

pub returns : goal.returns
returns c = states_hold_own_bits
