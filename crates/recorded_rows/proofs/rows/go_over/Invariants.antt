-- Both vCPUs are of the first guest.
use Rattle.std.proofs.Common.{◌≡◌}
use Rattle.recorded_rows.proofs.rows.go_over.Given as goal

abbrev pub invariant-loop-does : goal.invariant-loop-does
invariant-loop-does g l = ((g.P.Port.seen l.first.vcpu.port).number ≡ 0) × ((g.P.Port.seen l.second.vcpu.port).number ≡ 0)
