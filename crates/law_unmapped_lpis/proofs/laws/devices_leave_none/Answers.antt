use Rattle.law_unmapped_lpis.proofs.OperationLaws.{devices_leave_none}
use Rattle.law_unmapped_lpis.proofs.laws.devices_leave_none.Goals as goal

pub returns : goal.returns
returns c = devices_leave_none
