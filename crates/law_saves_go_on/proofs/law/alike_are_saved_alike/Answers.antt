use Rattle.law_saves_go_on.proofs.AlikeLemmas.{alike_are_saved_alike}
use Rattle.law_saves_go_on.proofs.law.alike_are_saved_alike.Goals as goal

pub returns : goal.returns
returns c = alike_are_saved_alike
