-- One more device is there.
use Rattle.std.proofs.Common.{◌≡◌, ◌+◌, refl, subst, arith}
use Rattle.thr_trip.specs.PortTable.All.{told_root}
use Rattle.thr_trip.specs.PortTable.Told.{words_at}
use Rattle.thr_cast.specs.Split.{SplitTo}
use Rattle.thr_cast.proofs.ComingLemmas.{device_came}
use Rattle.thr_cast.proofs.cast.Cast.add_devices.Goals as goal

pub loop-device-preserved : goal.loop-device-preserved
loop-device-preserved g c =
    let words = g.J.Naming.words in
    let vcpus = (words_at words c.args.guest).guest.shape.vcpus in
    let run = c.in_ok-run.ensures in
    let next : vcpus + c.loop-device.device + 1 ≡ vcpus + (c.loop-device.device + 1) = omega arith in
    record {
      devices = c.loop-device.invariant.devices;
      split = subst (SplitTo words (told_root c.device_of.new.root) c.args.guest) next run.root;
      cast = device_came words c.args.guest c.loop-device.self (record { trips = c.loop-device.self.trips; devices = c.push.new.self }) vcpus c.loop-device.device c.in_ok-run.run' c.loop-device.invariant.cast c.in_ok-push.ensures.items refl run.name.0 run.name.1 run.fresh;
    }
