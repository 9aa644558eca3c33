-- The events so far; as many are left as the tables have, at most.
use Rattle.std.proofs.Common.{length}
use Rattle.its_exec.proofs.ForgetLemmas.{Forgetting}
use Rattle.its_exec.proofs.command.forget_events.Given as goal

abbrev pub invariant-loop-event : goal.invariant-loop-event
invariant-loop-event g l = Forgetting (g.P.Port.seen l.initial.port) (g.P.Port.seen l.port) l.fetched l.initial.tables l.tables l.device

abbrev pub decreases-loop-event : goal.decreases-loop-event
decreases-loop-event g l = length l.tables.events
