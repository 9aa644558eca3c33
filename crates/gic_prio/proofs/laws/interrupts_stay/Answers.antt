use Rattle.std.proofs.Common.{◌∙◌}
use Rattle.gic_prio.specs.Access.{taken_by, deactivated_by}
use Rattle.gic_prio.specs.Interface.{candidates_at, acknowledged_at}
use Rattle.gic_prio.proofs.InterfaceLemmas.{keys_acknowledged, keys_deactivated}
use Rattle.gic_prio.proofs.laws.interrupts_stay.Goals as goal

pub returns : goal.returns
returns c = λ reg write interface.
    let taken = taken_by reg write interface.cpu (candidates_at interface) in
    keys_deactivated (deactivated_by reg write interface.cpu) (acknowledged_at taken interface.at) ∙ keys_acknowledged taken interface.at
