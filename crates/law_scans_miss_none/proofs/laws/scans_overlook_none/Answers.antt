use Rattle.law_scans_miss_none.proofs.ScanRuns.{scans_overlook_none}
use Rattle.law_scans_miss_none.proofs.laws.scans_overlook_none.Goals as goal

pub returns : goal.returns
returns c = scans_overlook_none
