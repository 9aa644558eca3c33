use Rattle.gic_vm.proofs.SignalLemmas.{lines_told}
use Rattle.gic_vm.proofs.lines.lines_tell_answers.Goals as goal

pub returns : goal.returns
returns c = lines_told
