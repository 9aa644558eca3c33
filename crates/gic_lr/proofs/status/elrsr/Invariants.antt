use Rattle.gic_lr.specs.Status.{is_empty}
use Rattle.gic_lr.proofs.StatusLemmas.{Kept}
use Rattle.gic_lr.proofs.status.elrsr.Given as goal

-- the bits of the registers so far, and those of the registers that are left, give the bits of all
abbrev pub invariant-loop-place : goal.invariant-loop-place
invariant-loop-place l = Kept is_empty l.lrs l.place l.bits
