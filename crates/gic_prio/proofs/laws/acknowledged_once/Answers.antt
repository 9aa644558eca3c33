use Rattle.gic_prio.specs.Access.{taken_by, deactivated_by, cpu_after}
use Rattle.gic_prio.specs.Interface.{candidates_at}
use Rattle.gic_prio.proofs.InterfaceLemmas.{none_left}
use Rattle.gic_prio.proofs.laws.acknowledged_once.Goals as goal

pub returns : goal.returns
returns c = λ reg write interface found taken.
    let there = candidates_at interface in
    none_left (cpu_after reg write interface.cpu there) (deactivated_by reg write interface.cpu) (taken_by reg write interface.cpu there) found interface.at taken
