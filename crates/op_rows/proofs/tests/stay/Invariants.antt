-- The vCPU is on its PE.
use Rattle.std.proofs.Common.{◌≡◌}
use Rattle.pe_op.specs.PeLoop.Stay.{IsUp}
use Rattle.op_rows.proofs.tests.stay.Given as goal

abbrev pub invariant-loop-does : goal.invariant-loop-does
invariant-loop-does g l = IsUp (g.P.Port.seen l.port) l.vcpu × ((g.P.Port.seen l.port).number ≡ 0)
