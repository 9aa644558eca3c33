-- Laws of every run of the core.
use Rattle.std.specs.Prelude.{◌≡◌, ℕ, IsTrue, List, [], ◌∷◌, Option, Some, None}
use Rattle.law_lines_translate.specs.Words.{GuestShape}
use Rattle.law_lines_translate.specs.Calls.{Happened, CanHappen}
use Rattle.law_lines_translate.specs.Histories.{Ideal, is_allowed, handed_out, happened, Course, call_of, course_of, opening_course, IsCallEnded, IsHistory, last_of, IdealGuest, CanOpen}
use Rattle.law_lines_translate.specs.GicHistory.State.{opening as opening_ideal}
use Rattle.law_lines_translate.specs.Core.{Entry, CoreState, opening, after, seat_at, IsRun, end_of, after_moment, end_of_moments, ideal_moments, ideal_of, Act, begins, makes, ends, CoreMoment, IsPartedRun}
use Rattle.law_core_is_history.specs.Related.{Related}
use Rattle.law_core_is_history.specs.Simulates.{event_of}

-- the ideal controller after what a step stands for, if it stands for an event
abbrev pub followed_by : ℕ → Option Happened → Ideal → Ideal
followed_by actor None ideal = ideal
followed_by actor (Some one) ideal = happened actor one.event ideal

-- and after all steps of a run, one after the other
abbrev pub followed : GuestShape → CoreState → Ideal → List Entry → Ideal
followed shape state ideal [] = ideal
followed shape state ideal (entry ∷ entries) = followed shape (after shape state entry) (followed_by entry.actor (event_of shape state entry) ideal) entries

-- an event names what the guest has, may happen, and hands out what is there
pub record MayHappen (shape : GuestShape) (ideal : Ideal) (actor : ℕ) (one : Happened) : Type 0 where
  pub can : CanHappen shape one.event
  pub allowed : IsTrue (is_allowed ideal actor one.event)
  pub hands : one.found ≡ handed_out ideal one.event

abbrev pub IsFollowedBy : GuestShape → Ideal → ℕ → Option Happened → Type 0
IsFollowedBy shape ideal actor None = Unit {0}
IsFollowedBy shape ideal actor (Some one) = MayHappen shape ideal actor one

-- so does each event for which a step of a run stands
abbrev pub IsFollowed : GuestShape → CoreState → Ideal → List Entry → Type 0
IsFollowed shape state ideal [] = Unit {0}
IsFollowed shape state ideal (entry ∷ entries) =
    IsFollowedBy shape ideal entry.actor (event_of shape state entry) × IsFollowed shape (after shape state entry) (followed_by entry.actor (event_of shape state entry) ideal) entries

-- a run is what it stands for: each step the event of the ideal controller that it stands for, or nothing, and the words and actors at its end say what the
-- ideal controller has then
pub record IsSimulation (guest : IdealGuest) (number : ℕ) (entries : List Entry) : Type 0 where
  pub follows : IsFollowed guest.shape (opening guest number) (opening_ideal guest) entries
  pub related : Related guest.shape (end_of guest.shape (opening guest number) entries) (followed guest.shape (opening guest number) (opening_ideal guest) entries)

-- whatever the actors of a good guest do, and in whatever order their steps come
abbrev pub RunsAreSimulated : Type 0
RunsAreSimulated = (guest : IdealGuest) (number : ℕ) (entries : List Entry) → CanOpen guest → IsRun guest.shape (opening guest number) entries → IsSimulation guest number entries

-- Runs that are told with their parts are simulated too.

-- where a part ends, what it stands for is the call that it was begun for, with this answer
abbrev pub IsCallAt : GuestShape → Course → ℕ → Act → Type 0
IsCallAt shape course actor (ends answer) = IsCallEnded (course.signals actor) shape actor (call_of course actor) answer
IsCallAt shape course actor (makes made) = Unit {0}
IsCallAt shape course actor (begins operation lrs) = Unit {0}

abbrev pub AreCalls : GuestShape → CoreState → Course → List CoreMoment → Type 0
AreCalls shape state course [] = Unit {0}
AreCalls shape state course (moment ∷ moments) =
    IsCallAt shape course moment.actor moment.act
    × AreCalls shape (after_moment shape state moment) (course_of course (ideal_moments shape (seat_at state moment.actor) moment.actor moment.act)) moments

-- a run whose parts make their calls is a history of the ideal controller, with the same answers, and the words and actors at its end say what the ideal
-- controller has then
pub record IsHistoryOf (guest : IdealGuest) (number : ℕ) (moments : List CoreMoment) : Type 0 where
  pub history : IsHistory guest (ideal_of guest.shape (opening guest number) moments)
  pub related : Related guest.shape (end_of_moments guest.shape (opening guest number) moments) (last_of guest (ideal_of guest.shape (opening guest number) moments))

abbrev pub Simulates : Type 0
Simulates =
    (guest : IdealGuest) (number : ℕ) (moments : List CoreMoment) → CanOpen guest → IsPartedRun guest number moments → AreCalls guest.shape (opening guest number) (opening_course guest) moments → IsHistoryOf guest number moments
