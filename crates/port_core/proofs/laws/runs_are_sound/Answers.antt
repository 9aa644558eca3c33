use Rattle.port_core.specs.Run.{opening}
use Rattle.port_core.proofs.OpeningLemmas.{opens_sound}
use Rattle.port_core.proofs.StepLemmas.{run_sound}
use Rattle.port_core.proofs.laws.runs_are_sound.Goals as goal

pub returns : goal.returns
returns c = λ guest number entries good run. run_sound guest.shape (opening guest number) entries good.sound.shape (opens_sound guest number good) run
