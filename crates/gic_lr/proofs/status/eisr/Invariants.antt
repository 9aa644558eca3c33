use Rattle.gic_lr.specs.Status.{has_ended}
use Rattle.gic_lr.proofs.StatusLemmas.{Kept}
use Rattle.gic_lr.proofs.status.eisr.Given as goal

-- the bits of the registers so far, and those of the registers that are left, give the bits of all
abbrev pub invariant-loop-place : goal.invariant-loop-place
invariant-loop-place l = Kept has_ended l.lrs l.place l.bits
