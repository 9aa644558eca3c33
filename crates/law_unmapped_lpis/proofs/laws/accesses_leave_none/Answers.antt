use Rattle.law_unmapped_lpis.proofs.OperationLaws.{accesses_leave_none}
use Rattle.law_unmapped_lpis.proofs.laws.accesses_leave_none.Goals as goal

pub returns : goal.returns
returns c = accesses_leave_none
