-- The SGIs of the first vCPUs were sent.
use Rattle.pe_icc.specs.Sgi.{Sends, sgis_before}
use Rattle.pe_icc.proofs.sgi.send_all.Given as goal

abbrev pub invariant-loop-vcpu : goal.invariant-loop-vcpu
invariant-loop-vcpu g l = Sends (g.P.Port.seen l.initial.port) (g.P.Port.seen l.port) (sgis_before l.value (g.P.Port.seen l.initial.port).actor l.vcpu)
