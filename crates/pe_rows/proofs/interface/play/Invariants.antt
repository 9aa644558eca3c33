-- The vCPU is on its PE.
use Rattle.pe_icc.specs.PeLoop.Stay.{IsUp}
use Rattle.pe_rows.proofs.interface.play.Given as goal

abbrev pub invariant-loop-done : goal.invariant-loop-done
invariant-loop-done g l = IsUp (g.P.Port.seen l.port) l.vcpu
