use Rattle.gic_dmap.proofs.MapLemmas.{parts_in_place}
use Rattle.gic_dmap.proofs.map.parts_are_in_place.Goals as goal

pub returns : goal.returns
returns c = parts_in_place
