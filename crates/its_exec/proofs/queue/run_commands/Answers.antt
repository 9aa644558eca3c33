-- One more command.
use Rattle.its_exec.proofs.TakeLemmas.{taken_more}
use Rattle.its_exec.proofs.queue.run_commands.Goals as goal

pub loop-preserved : goal.loop-preserved
loop-preserved g c = (
  tt,
  tt,
  c.take_command-fault.ensures.ready,
  taken_more (g.P.Port.seen c.args.port.now) (g.P.Port.seen c.loop.port) (g.P.Port.seen c.take_command-fault.new.port) c.loop.fault c.take_command-fault.result c.loop.invariant.3 c.take_command-fault.ensures.takes,
)
