-- What was held at the places so far has left.
use Rattle.pe_loop.specs.Leave.{IsLeaving}
use Rattle.pe_loop.proofs.exit.leave.Given as goal

abbrev pub invariant-loop-place : goal.invariant-loop-place
invariant-loop-place g l = IsLeaving (g.P.Port.seen l.initial.port) (g.P.Port.seen l.port) l.vcpu l.place
