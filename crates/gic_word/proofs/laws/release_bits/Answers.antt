use Rattle.gic_word.proofs.ReleaseLemmas.{gives_back, activates, deactivates, releases}
use Rattle.gic_word.proofs.laws.release_bits.Goals as goal

pub returns : goal.returns
returns c = record { give_back = gives_back; activate = activates; deactivate = deactivates; release = releases }
