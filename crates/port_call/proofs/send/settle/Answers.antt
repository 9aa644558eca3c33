-- The marks, and then the kicks.
use Rattle.port_call.proofs.SettleLemmas.{settles}
use Rattle.port_call.proofs.send.settle.Goals as goal

pub returns : goal.returns
returns g c = settles (g.P.Port.seen c.args.port.now) (g.P.Port.seen c.send_marks.new.port) (g.P.Port.seen c.send_kicks.new.port) c.send_marks.ensures c.send_kicks.ensures
