use Rattle.law_registers_stand.proofs.AskRuns.{groups_mirrored}
use Rattle.law_registers_stand.proofs.laws.groups_mirrored.Goals as goal

pub returns : goal.returns
returns c = groups_mirrored
