use Rattle.legal_play.proofs.PartsLaw.{parts_are_all}
use Rattle.legal_play.proofs.laws.parts_are_all.Goals as goal

pub returns : goal.returns
returns c = parts_are_all
