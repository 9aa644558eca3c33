use Rattle.law_registers_stand.proofs.WorkedSteps.{level_is_behind}
use Rattle.law_registers_stand.proofs.laws.level_run_is_behind.Goals as goal

pub returns : goal.returns
returns c = level_is_behind
