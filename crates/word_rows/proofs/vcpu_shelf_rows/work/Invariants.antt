use Rattle.std.proofs.Common.{◌≡◌, None}
use Rattle.vcpu_shelf.specs.Shelf.{shelf_told, seat_told}
use Rattle.vcpu_shelf.specs.Told.{IsOf}
use Rattle.word_rows.proofs.vcpu_shelf_rows.work.Given as goal

-- the seat is of the shelf, and has nothing out
abbrev pub invariant-loop : goal.invariant-loop
invariant-loop g l =
    record {
      next : (goal.iterator-loop g).can_next l.iterator';
      finite : (goal.iterator-loop g).is_finite l.iterator';
      of : IsOf (shelf_told l.shelf) (seat_told l.seat);
      none : (seat_told l.seat).out ≡ None;
    }
