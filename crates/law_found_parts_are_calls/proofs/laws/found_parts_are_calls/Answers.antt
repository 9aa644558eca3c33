use Rattle.law_found_parts_are_calls.proofs.EndRuns.{found_parts_are_calls}
use Rattle.law_found_parts_are_calls.proofs.laws.found_parts_are_calls.Goals as goal

pub returns : goal.returns
returns c = found_parts_are_calls
