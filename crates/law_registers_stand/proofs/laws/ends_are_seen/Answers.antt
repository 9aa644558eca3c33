use Rattle.law_registers_stand.proofs.SeeRuns.{ends_are_seen}
use Rattle.law_registers_stand.proofs.laws.ends_are_seen.Goals as goal

pub returns : goal.returns
returns c = ends_are_seen
