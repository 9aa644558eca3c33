-- The vCPU is on its PE.
use Rattle.pe_op.specs.PeLoop.Stay.{IsUp}
use Rattle.gic_msi.specs.Core.{IsSameActor}
use Rattle.embed_example.proofs.vcpu.Vcpu.run.Given as goal

abbrev pub invariant-loop-number : goal.invariant-loop-number
invariant-loop-number g l = IsUp (g.P.Port.seen l.port) l.vcpu × IsSameActor (g.P.Port.seen l.fn.port) (g.P.Port.seen l.port)
