use Rattle.port_table.proofs.ApartLemmas.{apart}
use Rattle.port_table.proofs.laws.guests_apart.Goals as goal

pub returns : goal.returns
returns c = apart
