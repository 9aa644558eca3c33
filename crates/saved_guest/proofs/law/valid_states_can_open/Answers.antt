use Rattle.saved_guest.proofs.LawLemmas.{valid_states_can_open}
use Rattle.saved_guest.proofs.law.valid_states_can_open.Goals as goal

pub returns : goal.returns
returns c = valid_states_can_open
