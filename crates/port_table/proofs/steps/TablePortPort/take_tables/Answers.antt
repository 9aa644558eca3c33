use Rattle.port_table.proofs.PortLemmas.{holds_tables}
use Rattle.port_table.proofs.steps.TablePortPort.take_tables.Goals as goal

pub exchange-requires : goal.exchange-requires
exchange-requires c =
    let port = c.args.self.now in (
      port.home,
      holds_tables port c.requires.turn c.requires.home,
    )
