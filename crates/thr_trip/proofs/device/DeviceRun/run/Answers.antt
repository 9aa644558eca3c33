-- Its script is done.
use Rattle.std.proofs.Common.{List, subst}
use Rattle.gic_io.specs.Words.{DeviceOp}
use Rattle.port_table.specs.Ports.{seen_of}
use Rattle.thr_trip.specs.Device.{DeviceTold, Receives}
use Rattle.thr_trip.proofs.DeviceLemmas.{device_done}
use Rattle.thr_trip.proofs.device.DeviceRun.run.Goals as goal

pub invariant_of-self : goal.invariant_of-self
invariant_of-self g c =
    let before = c.args.self.now in
    let device : DeviceTold = record { guest = before.guest; device = before.device; script = before.script; done = before.done; seen = seen_of before.port } in
    let left = seen_of c.receive_all.new.port in
    record { is = device_done g.J.Naming.words g.J.Naming.steps device left before.is c.requires (subst (λ (script : List DeviceOp). Receives script device.seen left) c.as_slice.ensures c.receive_all.ensures) }
