use Rattle.pe_icc.proofs.LawLemmas.{entry_runs}
use Rattle.pe_icc.proofs.laws.entry_runs.Goals as goal

pub returns : goal.returns
returns c = entry_runs
