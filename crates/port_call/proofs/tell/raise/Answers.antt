-- The step, and what it owes.
use Rattle.port_call.proofs.TellLemmas.{raise_tells}
use Rattle.port_call.proofs.tell.raise.Goals as goal

pub returns : goal.returns
returns g c = raise_tells (g.P.Port.seen c.args.port.now) (g.P.Port.seen c.step.new.self) (g.P.Port.seen c.settle.new.port) c.args.key c.step.result c.step.ensures.adds c.settle.ensures
