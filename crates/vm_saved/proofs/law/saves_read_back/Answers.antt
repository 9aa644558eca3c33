use Rattle.vm_saved.proofs.BackLemmas.{saves_read_back}
use Rattle.vm_saved.proofs.law.saves_read_back.Goals as goal

pub returns : goal.returns
returns c = saves_read_back
