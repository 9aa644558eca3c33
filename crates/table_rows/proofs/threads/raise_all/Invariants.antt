-- The port is the same actor's.
use Rattle.dev_port.specs.Core.{IsSameActor}
use Rattle.table_rows.proofs.threads.raise_all.Given as goal

abbrev pub invariant-loop-message : goal.invariant-loop-message
invariant-loop-message g l = IsSameActor (g.P.Port.seen l.fn.port) (g.P.Port.seen l.port)
