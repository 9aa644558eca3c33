use Rattle.std.specs.Prelude.{◌≡◌, true}
use Rattle.gic_msi.specs.Registers.{has_lpis}
use Rattle.gic_msi.specs.DevPort.Device.{CanCall}
use Rattle.gic_msi.specs.Core.{shape_of}
use Rattle.table_bench.proofs.sends.send_events.Given as goal

-- the device may send the next one
abbrev pub invariant-loop-number : goal.invariant-loop-number
invariant-loop-number g l = record { lpis : has_lpis (shape_of (g.P.Port.seen l.port)) ≡ true; ready : CanCall (g.P.Port.seen l.port) }
