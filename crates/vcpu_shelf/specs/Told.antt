-- What is told of a shelf and of a seat.
use Rattle.std.specs.Prelude.{◌≡◌, ℕ, ◌<◌, ◌++◌, IsTrue, List, [], Option, None}
use Rattle.atomic_table.specs.Seated.{TableId}
use Rattle.vcpu_shelf.specs.declared.view.Deed.{Deed}
use Rattle.vcpu_shelf.specs.View.{is_found_finished}

-- a shelf: which table its owner words stand in, and how many places it has
pub record ShelfTold : Type 0 where
  pub home : TableId
  pub places : ℕ

-- a seat: which table it is of, the steps that it knows, oldest first, and the place whose traveller is out with it
pub record SeatTold : Type 0 where
  pub home : TableId
  pub deeds : List Deed
  pub out : Option ℕ

-- the seat is of this shelf
abbrev pub IsOf : ShelfTold → SeatTold → Type 0
IsOf shelf seat = seat.home ≡ shelf.home

-- a seat that knows no steps and has nothing out
abbrev pub opening_seat : ShelfTold → SeatTold
opening_seat shelf = record { home = shelf.home; deeds = []; out = None }

-- a seat that took in the steps of another
abbrev pub with_steps_of : SeatTold → SeatTold → SeatTold
with_steps_of other seat = record seat { deeds = seat.deeds ++ other.deeds }

-- by its steps a seat knows that each place was found finished: it, or one joined into it, was answered AllDone
pub record SawAllDone (shelf : ShelfTold) (seat : SeatTold) : Type 0 where
  pub each : (place : ℕ) → place < shelf.places → IsTrue (is_found_finished place seat.deeds)
