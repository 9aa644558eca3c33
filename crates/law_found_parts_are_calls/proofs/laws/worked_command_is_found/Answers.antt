use Rattle.law_found_parts_are_calls.proofs.WorkedCommands.{worked_command_is_found}
use Rattle.law_found_parts_are_calls.proofs.laws.worked_command_is_found.Goals as goal

pub returns : goal.returns
returns c = worked_command_is_found
