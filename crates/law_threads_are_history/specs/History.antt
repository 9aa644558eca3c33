-- What the actors of a guest did side by side is one history of the ideal controller, with the same answers (own choice).
use Rattle.std.specs.Prelude.{◌≡◌, ℕ, ◌<◌, ◌≤◌, List, []}
use Rattle.law_ends_agree.specs.Histories.{IsFresh, IsWhole, opening_course, IdealGuest, CanOpen}
use Rattle.law_found_parts_are_calls.specs.LawEagerIsHistory.Calls.{calls_of}
use Rattle.law_ends_agree.specs.Core.{Entry, actor_count, IsRun, end_of, opening, end_of_moments, ideal_of, CoreMoment, IsProperRun}
use Rattle.law_found_parts_are_calls.specs.LawCoreIsHistory.Laws.{AreCalls, IsHistoryOf}
use Rattle.law_ends_agree.specs.End.{AreEmpty, EndsAtHome}
use Rattle.pe_place.specs.Calls.{calls_in}
use Rattle.pe_place.specs.Parts.{Part}
use Rattle.law_threads_are_history.specs.Woven.{AreWoven, HaveDone}

-- each actor's parts are its calls in a history of the ideal controller, and no others are there
pub record HaveCalls (guest : IdealGuest) (number : ℕ) (parts : ℕ → List Part) (moments : List CoreMoment) : Type 0 where
  pub each : (actor : ℕ) → actor < actor_count guest.shape → calls_of actor (ideal_of guest.shape (opening guest number) moments) ≡ calls_in (parts actor)
  pub others : (actor : ℕ) → actor_count guest.shape ≤ actor → calls_of actor (ideal_of guest.shape (opening guest number) moments) ≡ []

-- what actors did side by side, with these steps in the order in which they came, are moments of a proper run, which stands for a fresh history of the ideal
-- controller in which all calls ended, and each actor made its calls, with the same answers; the words and actors at its end say what that has then; and
-- where no interrupt is at a CPU interface, the guest that they say is that one, with all that stands at interfaces taken back
pub record HasHistory (guest : IdealGuest) (number : ℕ) (world : List Entry) (parts : ℕ → List Part) : Type 0 where
  pub moments : List CoreMoment
  pub woven : AreWoven guest world parts moments
  pub proper : IsProperRun guest number moments
  pub are_calls : AreCalls guest.shape (opening guest number) (opening_course guest) moments
  pub is : IsHistoryOf guest number moments
  pub fresh : IsFresh guest (ideal_of guest.shape (opening guest number) moments)
  pub whole : IsWhole guest (ideal_of guest.shape (opening guest number) moments)
  pub calls : HaveCalls guest number parts moments
  pub state : end_of_moments guest.shape (opening guest number) moments ≡ end_of guest.shape (opening guest number) world
  pub end : AreEmpty guest.shape (end_of guest.shape (opening guest number) world) → EndsAtHome guest number moments

-- so it is in whatever order the steps of the actors of a good guest came
abbrev pub ThreadsAreAHistory : Type 0
ThreadsAreAHistory =
    (guest : IdealGuest) (number : ℕ) (world : List Entry) (parts : ℕ → List Part) → CanOpen guest → IsRun guest.shape (opening guest number) world → HaveDone guest number world parts → HasHistory guest number world parts
