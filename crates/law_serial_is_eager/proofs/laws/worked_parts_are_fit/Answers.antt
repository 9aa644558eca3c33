use Rattle.law_serial_is_eager.proofs.WorkedLemmas.{worked_parts_are_fit}
use Rattle.law_serial_is_eager.proofs.laws.worked_parts_are_fit.Goals as goal

pub returns : goal.returns
returns c = worked_parts_are_fit
