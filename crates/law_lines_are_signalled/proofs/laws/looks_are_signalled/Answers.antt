use Rattle.law_lines_are_signalled.proofs.LookRuns.{looks_are_signalled}
use Rattle.law_lines_are_signalled.proofs.laws.looks_are_signalled.Goals as goal

pub returns : goal.returns
returns c = looks_are_signalled
