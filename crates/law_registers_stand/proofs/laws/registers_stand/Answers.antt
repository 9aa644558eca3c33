use Rattle.law_registers_stand.proofs.StandRuns.{registers_stand}
use Rattle.law_registers_stand.proofs.laws.registers_stand.Goals as goal

pub returns : goal.returns
returns c = registers_stand
