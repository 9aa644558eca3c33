-- The first vCPUs came back.
use Rattle.std.proofs.Common.{◌≡◌, All, ◌++◌, length, map}
use Rattle.std.specs.Vec.Iter.{into_iter_items, into_iter_len}
use Rattle.thr_trip.specs.PortTable.All.{told_root}
use Rattle.thr_trip.specs.PortTable.Told.{AreRoots}
use Rattle.thr_trip.specs.Trip.{IsTrip, TripTold}
use Rattle.thr_cast.specs.Back.{heard_of, trips_in}
use Rattle.thr_cast.specs.Crew.{joined_all}
use Rattle.thr_cast.proofs.back.take_apart.Given as goal

abbrev pub invariant-loop-slot : goal.invariant-loop-slot
invariant-loop-slot g l =
    record {
      next : (goal.iterator-loop-slot g).can_next l.slot-iterator;
      finite : (goal.iterator-loop-slot g).is_finite l.slot-iterator;
      rest : l.yielded ++ into_iter_items l.slot-iterator ≡ l.fn.slots.items;
      left : into_iter_len l.slot-iterator ≡ length (into_iter_items l.slot-iterator);
      root : told_root l.root ≡ joined_all (map (λ (trip : TripTold). trip.seen) (trips_in l.yielded)) (told_root l.initial.root);
      roots : AreRoots g.J.Naming.words (told_root l.root);
      trips : All (IsTrip g.J.Naming.words g.J.Naming.lrs g.J.Naming.steps) (trips_in l.yielded);
      heard : l.heard ≡ map heard_of (trips_in l.yielded);
      cpus : l.cpus ≡ map (λ (trip : TripTold). trip.vcpu.cpu) (trips_in l.yielded);
    }
