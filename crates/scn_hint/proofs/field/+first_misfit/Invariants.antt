use Rattle.std.proofs.Common.{length}
use Rattle.scn_hint.proofs.field.+first_misfit.Given as goal

abbrev pub decreases-first_misfit : goal.decreases-first_misfit
decreases-first_misfit l = length l.rules.now
