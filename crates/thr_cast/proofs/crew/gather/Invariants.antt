-- The first workers were joined again.
use Rattle.std.proofs.Common.{◌≡◌, true, All, ◌++◌, map}
use Rattle.std.specs.Vec.Iter.{into_iter_items}
use Rattle.thr_trip.specs.PortTable.All.{told_root}
use Rattle.thr_trip.specs.PortTable.Told.{AreRoots}
use Rattle.thr_trip.specs.Device.{DeviceTold, IsDevice}
use Rattle.thr_trip.specs.Seat.{IsFreeSeat}
use Rattle.thr_trip.specs.VcpuShelf.Shelf.{shelf_told, seat_told}
use Rattle.thr_trip.specs.VcpuShelf.Told.{SawAllDone}
use Rattle.thr_cast.specs.Crew.{devices_in, has_pe, joined_all}
use Rattle.thr_cast.proofs.crew.gather.Given as goal

abbrev pub invariant-loop-worker : goal.invariant-loop-worker
invariant-loop-worker g l =
    record {
      next : (goal.iterator-loop-worker g).can_next l.worker-iterator;
      finite : (goal.iterator-loop-worker g).is_finite l.worker-iterator;
      rest : l.yielded ++ into_iter_items l.worker-iterator ≡ l.fn.workers.items;
      root : told_root l.root ≡ joined_all (map (λ (device : DeviceTold). device.seen) (devices_in l.yielded)) (told_root l.initial.root);
      roots : AreRoots g.J.Naming.words (told_root l.root);
      devices : All (IsDevice g.J.Naming.words g.J.Naming.steps) (devices_in l.yielded);
      free : IsFreeSeat (shelf_told l.shelf) (seat_told l.seat);
      saw : has_pe l.yielded ≡ true → SawAllDone (shelf_told l.shelf) (seat_told l.seat);
    }
