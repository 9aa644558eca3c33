use Rattle.gic_prio.proofs.LevelLemmas.{idle_exactly}
use Rattle.gic_prio.proofs.laws.running_when_idle.Goals as goal

pub returns : goal.returns
returns c = λ cpu h k. idle_exactly cpu.ap0 cpu.ap1 h k
