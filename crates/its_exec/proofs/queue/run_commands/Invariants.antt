-- The actor is where a command begins.
use Rattle.its_exec.specs.Queue.{IsReady, TakesAll}
use Rattle.its_exec.proofs.queue.run_commands.Given as goal

abbrev pub invariant-loop : goal.invariant-loop
invariant-loop g l = (goal.iterator-loop g).can_next l.iterator' × (goal.iterator-loop g).is_finite l.iterator' × IsReady (g.P.Port.seen l.port) l.shape l.tables l.queue × TakesAll (g.P.Port.seen l.initial.port) (g.P.Port.seen l.port) l.fault
