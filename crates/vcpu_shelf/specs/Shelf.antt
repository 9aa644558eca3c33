-- What a shelf and a seat tell.
use Rattle.vcpu_shelf.specs.declared.shelf.Shelf.{Shelf}
use Rattle.vcpu_shelf.specs.declared.shelf.ShelfSeat.{ShelfSeat}
use Rattle.vcpu_shelf.specs.Told.{ShelfTold, SeatTold}

-- the table with the owner words of a shelf, and how many places it has
abbrev pub shelf_told : {T : Type 0} → Shelf T → ShelfTold
shelf_told shelf = record { home = shelf.owners.shared.table_id; places = shelf.places }

-- the table that a seat is of, the steps that it knows, and what is out with it
abbrev pub seat_told : {T : Type 0} → ShelfSeat T → SeatTold
seat_told seat = record { home = seat.seat.table_id; deeds = seat.seat.me.0.deeds; out = seat.seat.me.0.out }
