-- What a track of a guest's history has room for: there is a place for each interrupt.
use Rattle.std.specs.Prelude.{◌≡◌, ℕ, false, List, [], None, length, slice_index_or}
use Rattle.floor_histories.specs.Words.{GuestShape, interrupt_count}
use Rattle.floor_histories.specs.Histories.{Doing, Track}

pub record HasPlaces (shape : GuestShape) (track : Track) : Type 0 where
  pub changes : length track.changes ≡ interrupt_count shape

-- what an actor does, of these; an actor that is none of them is in no call
abbrev pub doing_in : List Doing → ℕ → Doing
doing_in doings actor = slice_index_or doings actor (record { operation = None; number = 0; done = []; fetched = false })
