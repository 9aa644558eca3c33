-- Laws of what the program knows of calls.
use Rattle.std.specs.Prelude.{◌↔◌, List}
use Rattle.legal_steps.specs.Calls.{Moment, Happened}
use Rattle.legal_steps.specs.Histories.{IdealGuest, Course, gone_on, Track, tracked}
use Rattle.legal_steps.specs.Step.{Pass, GoesOnLegally}
use Rattle.legal_play.specs.Board.{BoardOf, IsOfPass, GoesOnInParts}
use Rattle.legal_play.specs.Pieces.{pieces_after, AreCalls, IsOfActor}

-- a track and pieces that are of the calls of a course are so after a moment too
abbrev pub CallsAreFollowed : Type 0
CallsAreFollowed =
    (course : Course) (track : Track) (pieces : List (List Happened)) (moment : Moment) → AreCalls course track pieces → IsOfActor track moment → AreCalls (gone_on course moment) (tracked course.ideal moment track) (pieces_after moment pieces)

-- a moment goes on with a legal list exactly where it does so in parts, by what the program knows
abbrev pub PartsAreAll : Type 0
PartsAreAll = (guest : IdealGuest) (pass : Pass) (board : BoardOf) (moment : Moment) → IsOfPass guest.shape pass board → GoesOnLegally guest pass moment ↔ GoesOnInParts guest pass board moment
