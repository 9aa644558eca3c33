use Rattle.law_discarded_stay_out.proofs.FillLemmas.{fills}
use Rattle.law_discarded_stay_out.proofs.laws.fills_store.Goals as goal

pub returns : goal.returns
returns c = fills
