use Rattle.law_discarded_stay_out.proofs.LineRuns.{lines_filled_anew}
use Rattle.law_discarded_stay_out.proofs.laws.lines_are_filled_anew.Goals as goal

pub returns : goal.returns
returns c = lines_filled_anew
