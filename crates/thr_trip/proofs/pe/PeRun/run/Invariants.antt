-- The seat has nothing out.
use Rattle.vcpu_shelf.specs.Shelf.{shelf_told, seat_told}
use Rattle.thr_trip.specs.Seat.{IsFreeSeat}
use Rattle.thr_trip.proofs.pe.PeRun.run.Given as goal

abbrev pub invariant-loop : goal.invariant-loop
invariant-loop g l = record {
  next : (goal.iterator-loop g).can_next l.iterator';
  finite : (goal.iterator-loop g).is_finite l.iterator';
  free : IsFreeSeat (shelf_told l.shelf) (seat_told l.self.seat);
}
