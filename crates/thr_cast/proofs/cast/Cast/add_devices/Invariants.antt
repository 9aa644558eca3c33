-- The first devices of the guest are there.
use Rattle.std.proofs.Common.{◌≡◌, ◌+◌}
use Rattle.thr_trip.specs.PortTable.All.{told_root}
use Rattle.thr_trip.specs.PortTable.Told.{words_at}
use Rattle.thr_cast.specs.Cast.{HasCast, first_devices}
use Rattle.thr_cast.specs.Split.{SplitTo}
use Rattle.thr_cast.proofs.cast.Cast.add_devices.Given as goal

abbrev pub invariant-loop-device : goal.invariant-loop-device
invariant-loop-device g l =
    record {
      devices : l.devices ≡ (words_at g.J.Naming.words l.guest).guest.shape.devices;
      split : SplitTo g.J.Naming.words (told_root l.root) l.guest ((words_at g.J.Naming.words l.guest).guest.shape.vcpus + l.device);
      cast : HasCast g.J.Naming.words l.self l.guest (words_at g.J.Naming.words l.guest).guest.shape.vcpus (first_devices l.guest l.device);
    }
