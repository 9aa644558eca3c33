use Rattle.gic_prio.specs.Priority.{dropped_bits}
use Rattle.gic_prio.proofs.LevelLemmas.{prefix_of}
use Rattle.gic_prio.proofs.laws.group_priority_is_prefix.Goals as goal

pub returns : goal.returns
returns c = λ prio group cpu. prefix_of prio (dropped_bits group cpu)
