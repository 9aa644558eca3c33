use Rattle.std.proofs.Common.{◌≤◌}
use Rattle.gic_bench.proofs.tables.discard_all.Given as goal

-- each event counts once at most
abbrev pub invariant-loop-event : goal.invariant-loop-event
invariant-loop-event l = l.discarded ≤ l.event
