use Rattle.law_unmapped_lpis.proofs.CommandLaws.{commands_leave_none}
use Rattle.law_unmapped_lpis.proofs.laws.commands_leave_none.Goals as goal

pub returns : goal.returns
returns c = commands_leave_none
