use Rattle.scn_hint.proofs.ShapeLemmas.{fields_told}
use Rattle.scn_hint.proofs.law.fields_are_told.Goals as goal

pub returns : goal.returns
returns c = fields_told
