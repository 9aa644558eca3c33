-- The looks, and then the commands.
use Rattle.its_exec.proofs.QueueLemmas.{looked_ready}
use Rattle.its_exec.proofs.RunLemmas.{queue_runs}
use Rattle.its_exec.proofs.queue.run_queue.Goals as goal

pub run_commands-requires : goal.run_commands-requires
run_commands-requires g c =
    record {
      ready =
          looked_ready (g.P.Port.seen c.args.port.now) (g.P.Port.seen c.look_at_queue-queue.new.port) c.args.shape.now c.args.tables.now c.look_at_queue-queue.result c.requires.shape c.requires.taken c.requires.ease c.requires.lines c.requires.known c.requires.valid
          c.requires.fresh c.look_at_queue-queue.ensures;
    }

pub returns-clause-ends : goal.returns-clause-ends
returns-clause-ends g c =
    queue_runs (g.P.Port.seen c.args.port.now) (g.P.Port.seen c.look_at_queue-queue.new.port) (g.P.Port.seen c.run_commands.new.port) c.args.shape.now c.run_commands.new.tables c.run_commands.result c.look_at_queue-queue.result
    c.look_at_queue-queue.ensures c.run_commands.ensures.ends
