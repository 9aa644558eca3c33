use Rattle.std.proofs.Common.{IsTrue}
use Rattle.gic_msi.specs.Words.{Spi, has_interrupt}
use Rattle.gic_msi.specs.DevPort.Device.{CanCall}
use Rattle.gic_msi.specs.Core.{shape_of}
use Rattle.table_bench.proofs.sends.send_spis.Given as goal

-- the device may send the next one
abbrev pub invariant-loop : goal.invariant-loop
invariant-loop g l = record { there : IsTrue (has_interrupt (shape_of (g.P.Port.seen l.port)) (Spi l.spi)); ready : CanCall (g.P.Port.seen l.port) }
