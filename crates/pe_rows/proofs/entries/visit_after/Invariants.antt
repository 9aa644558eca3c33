-- The guest's number stays.
use Rattle.std.proofs.Common.{◌≡◌}
use Rattle.pe_rows.proofs.entries.visit_after.Given as goal

abbrev pub invariant-loop-cause : goal.invariant-loop-cause
invariant-loop-cause g l = (g.P.Port.seen l.port).number ≡ 0
