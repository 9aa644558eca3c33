use Rattle.law_registers_stand.proofs.AskRuns.{none_asserted}
use Rattle.law_registers_stand.proofs.laws.none_asserted.Goals as goal

pub returns : goal.returns
returns c = none_asserted
