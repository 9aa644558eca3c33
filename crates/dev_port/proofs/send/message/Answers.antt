-- A raise, and what it owes.
use Rattle.dev_port.proofs.CallLemmas.{message_made}
use Rattle.dev_port.proofs.send.message.Goals as goal

pub returns : goal.returns
returns g c =
    message_made (g.P.Port.seen c.args.port.now) (g.P.Port.seen c.raise.new.port) c.args.spi (g.P.Port.is_port c.args.port.now) (g.P.Port.is_port c.raise.new.port) c.requires.ready c.raise.ensures
