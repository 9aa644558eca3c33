use Rattle.law_lines_are_signalled.proofs.SignalledRuns.{lines_are_signalled}
use Rattle.law_lines_are_signalled.proofs.laws.lines_are_signalled.Goals as goal

pub returns : goal.returns
returns c = lines_are_signalled
