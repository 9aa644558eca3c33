use Rattle.std.proofs.Common.{sym}
use Rattle.gic_prio.proofs.SetLemmas.{least_is}
use Rattle.gic_prio.proofs.levels.least.Goals as goal

pub returns-clause-value : goal.returns-clause-value
returns-clause-value c = sym (least_is c.args.levels c.ranges.levels.fits)
