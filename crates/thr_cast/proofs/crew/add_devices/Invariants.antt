-- The first devices are there.
use Rattle.std.proofs.Common.{◌≡◌, Bool, ◌++◌, [], length, map}
use Rattle.std.specs.Vec.Iter.{into_iter_items, into_iter_len}
use Rattle.thr_trip.specs.Told.{device_told}
use Rattle.thr_trip.specs.VcpuShelf.Told.{ShelfTold}
use Rattle.thr_cast.specs.Crew.{HaveWorkers, pe_numbers}
use Rattle.thr_cast.proofs.crew.add_devices.Given as goal

abbrev pub invariant-loop-device : goal.invariant-loop-device
invariant-loop-device g l =
    record {
      next : (goal.iterator-loop-device g).can_next l.device-iterator;
      finite : (goal.iterator-loop-device g).is_finite l.device-iterator;
      rest : l.yielded ++ into_iter_items l.device-iterator ≡ l.fn.devices.items;
      left : into_iter_len l.device-iterator ≡ length (into_iter_items l.device-iterator);
      have : (shelf : ShelfTold) (pes : Bool) → HaveWorkers shelf l.initial.workers.items [] pes → HaveWorkers shelf l.workers.items (map device_told l.yielded) pes;
      numbers : pe_numbers l.workers.items ≡ pe_numbers l.initial.workers.items;
    }
