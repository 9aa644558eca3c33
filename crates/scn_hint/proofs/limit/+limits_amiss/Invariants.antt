use Rattle.std.proofs.Common.{length}
use Rattle.scn_hint.proofs.limit.+limits_amiss.Given as goal

abbrev pub decreases-limits_amiss : goal.decreases-limits_amiss
decreases-limits_amiss l = length l.rows.now
