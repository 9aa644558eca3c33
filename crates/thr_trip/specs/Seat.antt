-- The seat of a PE at the shelf.
use Rattle.std.specs.Prelude.{◌≡◌, None}
use Rattle.vcpu_shelf.specs.Told.{ShelfTold, SeatTold, IsOf, SawAllDone}

-- a seat is of this shelf, and has no traveller out
pub record IsFreeSeat (shelf : ShelfTold) (seat : SeatTold) : Type 0 where
  pub of : IsOf shelf seat
  pub none : seat.out ≡ None

-- and by its steps all were done
pub record IsDoneSeat (shelf : ShelfTold) (seat : SeatTold) : Type 0 where
  pub free : IsFreeSeat shelf seat
  pub saw : SawAllDone shelf seat
