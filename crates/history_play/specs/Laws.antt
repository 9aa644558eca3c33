-- What histories are to the program.
use Rattle.std.specs.Prelude.{List}
use Rattle.history_check.specs.Calls.{Moment}
use Rattle.history_check.specs.Histories.{IdealGuest, IsHistory}
use Rattle.history_play.specs.Played.{IsAllowed}

-- every history of a guest is allowed
abbrev pub HistoriesAreAllowed : Type 0
HistoriesAreAllowed = (guest : IdealGuest) (moments : List Moment) → IsHistory guest moments → IsAllowed guest moments
