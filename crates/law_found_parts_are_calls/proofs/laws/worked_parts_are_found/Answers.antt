use Rattle.law_found_parts_are_calls.proofs.WorkedLemmas.{worked_parts_are_found}
use Rattle.law_found_parts_are_calls.proofs.laws.worked_parts_are_found.Goals as goal

pub returns : goal.returns
returns c = worked_parts_are_found
