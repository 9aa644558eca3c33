-- Runs of the core are fresh (own choice).
use Rattle.std.specs.Prelude.{ℕ, List}
use Rattle.law_serial_is_eager.specs.Histories.{opening_course, IsFresh, IdealGuest, CanOpen}
use Rattle.law_serial_is_eager.specs.Core.{opening, ideal_of, CoreMoment, IsProperRun}
use Rattle.law_serial_is_eager.specs.LawCoreIsHistory.Laws.{AreCalls}
use Rattle.law_serial_is_eager.specs.LawCoreIsHistory.Whole.{AreEnded}

-- every proper run whose parts are whole calls is fresh, in whatever order the steps of its actors come
abbrev pub RunsAreFresh : Type 0
RunsAreFresh =
    (guest : IdealGuest) (number : ℕ) (moments : List CoreMoment) → CanOpen guest → IsProperRun guest number moments → AreCalls guest.shape (opening guest number) (opening_course guest) moments → AreEnded guest.shape moments
    → IsFresh guest (ideal_of guest.shape (opening guest number) moments)
