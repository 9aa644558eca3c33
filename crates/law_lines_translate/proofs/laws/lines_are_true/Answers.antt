use Rattle.law_lines_translate.proofs.LineRuns.{runs_are_true}
use Rattle.law_lines_translate.proofs.laws.lines_are_true.Goals as goal

pub returns : goal.returns
returns c = runs_are_true
