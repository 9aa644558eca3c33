use Rattle.std.proofs.Common.{sym, ap, ◌∙◌}
use Rattle.port_seq.specs.Home.{maps_here, taker_of}
use Rattle.port_seq.specs.Ports.{told}
use Rattle.port_seq.proofs.KeptLemmas.{known_here, none_took}
use Rattle.port_seq.proofs.guest.GuestPort.take.Goals as goal

pub unreachable-requires : goal.unreachable-requires
unreachable-requires c =
    let port = c.args.self.now in
    none_took (told port) port.good port.there port.run port.turn c.requires.turn c.requires.home c.in-TakenBy.field-0 (ap taker_of (sym c.replace.ensures.value ∙ c.in-TakenBy.is))

pub returns-clause-value : goal.returns-clause-value
returns-clause-value c =
    let port = c.args.self.now in
    port.maps c.in-Here.tables (ap maps_here (sym c.replace.ensures.value ∙ c.in-Here.is)) ∙ sym (known_here (told port) port.good port.there port.run c.requires.turn)
