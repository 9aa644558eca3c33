-- The histories that the program plays.
use Rattle.std.specs.Prelude.{◌≡◌, ◌<◌, ◌+◌, ◌&&◌, Bool, true, IsTrue, List, [], ◌∷◌, ◌++◌, length, take, drop, slice_get, Some}
use Rattle.history_check.specs.Calls.{Moment}
use Rattle.history_check.specs.Histories.{IdealGuest, Ideal, Course, opening_course, gone_on, course_of, Track, opening_track, tracked, after_moment, is_fresh_at_acknowledge, is_fresh_at_interface, is_fresh_at_end, of_event, of_end, is_kept}
use Rattle.history_check.specs.GicHistory.State.{opening}
use Rattle.history_play.specs.Coming.{IsComing, IsCause}
use Rattle.history_play.specs.declared.whole.Refusal.{Refusal}

-- each moment goes on with a course, but for what ended calls have to be
abbrev pub GoesOnFreely : Course → List Moment → Type 0
GoesOnFreely course [] = Unit {0}
GoesOnFreely course (moment ∷ moments) = IsComing course moment × GoesOnFreely (gone_on course moment) moments

-- a history of a guest, but for what ended calls have to be
abbrev pub IsAllowed : IdealGuest → List Moment → Type 0
IsAllowed guest moments = GoesOnFreely (opening_course guest) moments

-- the course of a history, and its track
abbrev pub course_at : IdealGuest → List Moment → Course
course_at guest moments = course_of (opening_course guest) moments

abbrev pub track_from : Ideal → Track → List Moment → Track
track_from state track [] = track
track_from state track (moment ∷ moments) = track_from (after_moment state moment) (tracked state moment track) moments

abbrev pub track_at : IdealGuest → List Moment → Track
track_at guest moments = track_from (opening guest) (opening_track guest.shape) moments

-- the first clause of fresh, of some moments after which others come
abbrev pub is_acknowledged_before : Ideal → Track → List Moment → List Moment → Bool
is_acknowledged_before state track [] later = true
is_acknowledged_before state track (moment ∷ moments) later =
    of_event (is_fresh_at_acknowledge (moments ++ later)) state track moment && is_acknowledged_before (after_moment state moment) (tracked state moment track) moments later

-- moments are a fresh history of a guest, where others come after them
pub record IsFreshBefore (guest : IdealGuest) (moments later : List Moment) : Type 0 where
  pub acknowledge : IsTrue (is_acknowledged_before (opening guest) (opening_track guest.shape) moments later)
  pub interface : IsTrue (is_kept (of_event is_fresh_at_interface) guest moments)
  pub end : IsTrue (is_kept (of_event is_fresh_at_end) guest moments)
  pub deactivation : IsTrue (is_kept of_end guest moments)

-- the first moment that does not go on with a fresh history, and why: all before it do
pub record IsRefused (guest : IdealGuest) (moments : List Moment) (refusal : Refusal) : Type 0 where
  pub within : refusal.moment < length moments
  pub allowed : IsAllowed guest (take refusal.moment moments)
  pub fresh : IsFreshBefore guest (take refusal.moment moments) (drop refusal.moment moments)
  pub moment : Moment
  pub there : slice_get moments refusal.moment ≡ Some moment
  pub cause : IsCause refusal.cause (course_at guest (take refusal.moment moments)) (track_at guest (take refusal.moment moments)) moment (drop (refusal.moment + 1) moments)
