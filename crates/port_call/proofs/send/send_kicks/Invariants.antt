-- The kicks so far; as many are left as the set has vCPUs.
use Rattle.std.proofs.Common.{length}
use Rattle.port_call.specs.Settle.{kicks_owed, kicks_sent}
use Rattle.port_call.proofs.SettleLemmas.{Sending}
use Rattle.port_call.proofs.send.send_kicks.Given as goal

abbrev pub invariant-loop-vcpu : goal.invariant-loop-vcpu
invariant-loop-vcpu g l = Sending kicks_owed kicks_sent (g.P.Port.seen l.initial.port) (g.P.Port.seen l.port)

abbrev pub decreases-loop-vcpu : goal.decreases-loop-vcpu
decreases-loop-vcpu g l = length (kicks_owed (g.P.Port.seen l.port).local)
