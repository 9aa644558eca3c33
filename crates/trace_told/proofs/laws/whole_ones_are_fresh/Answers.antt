use Rattle.trace_told.proofs.PartLemmas.{whole_ones}
use Rattle.trace_told.proofs.laws.whole_ones_are_fresh.Goals as goal

pub returns : goal.returns
returns c = whole_ones
