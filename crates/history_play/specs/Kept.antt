-- What holds of each state and track that the program reaches.
use Rattle.std.specs.Prelude.{◌≡◌, ℕ, IsTrue, nat_le, length}
use Rattle.std.specs.List.{list_all}
use Rattle.history_check.specs.Words.{GuestShape}
use Rattle.history_check.specs.Histories.{actor_count, Track}
use Rattle.history_check.specs.Track.{HasPlaces}

-- a track of a guest's history has a place for each interrupt and for each actor
pub record IsFollowed (shape : GuestShape) (track : Track) : Type 0 where
  pub places : HasPlaces shape track
  pub actors : length track.doings ≡ actor_count shape

-- after so many moments there are no more calls and commands of an actor
pub record IsKept (shape : GuestShape) (moments : ℕ) (track : Track) : Type 0 where
  pub followed : IsFollowed shape track
  pub numbers : IsTrue (list_all (λ doing. nat_le doing.number moments) track.doings)
