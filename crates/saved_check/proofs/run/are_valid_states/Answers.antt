use Rattle.std.proofs.Common.{arith}
use Rattle.std.proofs.lemmas.Grind.{common_steps}
use Rattle.saved_check.proofs.RunLemmas.{as_many}
use Rattle.saved_check.proofs.run.are_valid_states.Goals as goal

pub returns-then-states-guests : goal.returns-then-states-guests
returns-then-states-guests c = (λ e. absurd (cc), λ valid. let same = as_many c.args.guests.now c.args.states.now valid in absurd (grind (arith, common_steps, same)))
