-- Where a history has come (own choice).
use Rattle.std.specs.Prelude.{List, fold}
use Rattle.law_core_is_history.specs.Calls.{Moment}
use Rattle.law_core_is_history.specs.Histories.{Track, after_moment, opening_track, tracked, Ideal, IdealGuest}
use Rattle.law_core_is_history.specs.GicHistory.State.{opening as opening_ideal}

-- a state of the ideal controller, and what a history up to it says of its actors and interrupts
pub record Followed : Type 0 where
  pub ideal : Ideal
  pub track : Track

-- after a moment
abbrev pub follows : Followed → Moment → Followed
follows at moment = record { ideal = after_moment at.ideal moment; track = tracked at.ideal moment at.track }

-- after a history from the opening
abbrev pub opening_followed : IdealGuest → Followed
opening_followed guest = record { ideal = opening_ideal guest; track = opening_track guest.shape }

abbrev pub followed_by : IdealGuest → List Moment → Followed
followed_by guest moments = fold follows (opening_followed guest) moments
