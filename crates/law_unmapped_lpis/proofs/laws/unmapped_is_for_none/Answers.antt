use Rattle.law_unmapped_lpis.proofs.WorkedLemmas.{unmapped_is_for_none}
use Rattle.law_unmapped_lpis.proofs.laws.unmapped_is_for_none.Goals as goal

pub returns : goal.returns
returns c = unmapped_is_for_none
