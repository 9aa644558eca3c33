use Rattle.gic_icv.proofs.PlaceLemmas.{places_agree}
use Rattle.gic_icv.proofs.laws.places_agree.Goals as goal

pub returns : goal.returns
returns c = places_agree
