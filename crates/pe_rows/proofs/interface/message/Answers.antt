-- The vCPU stays where it is.
use Rattle.port_seq.specs.Words.{Spi}
use Rattle.port_seq.specs.GicCall.declared.event.Event.TheVariants.{Raise as RaiseEvent}
use Rattle.pe_mem.specs.Core.{Raise}
use Rattle.pe_rows.proofs.UpLemmas.{up_told}
use Rattle.pe_rows.proofs.interface.message.Goals as goal

pub returns : goal.returns
returns g c =
    up_told (g.P.Port.seen c.args.port.now) (g.P.Port.seen c.raise.new.port) c.args.vcpu.now (Raise (Spi c.args.id)) (Spi c.args.id) (RaiseEvent (Spi c.args.id)) c.requires.up c.raise.ensures
