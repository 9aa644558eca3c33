-- Message-signalled interrupts whose translation was found in a translation line: each raises its LPI at a moment at which it signals that (own choice).
use Rattle.std.specs.Prelude.{◌≡◌, ℕ, ◌<◌, IsTrue, List, ◌∷◌, ◌++◌, map, Option, Some}
use Rattle.law_lines_translate.specs.Words.{Lpi, Msi}
use Rattle.law_lines_translate.specs.Calls.{Device, Operation}
use Rattle.law_lines_translate.specs.GicCall.declared.event.Event.TheVariants.{Raise}
use Rattle.law_lines_translate.specs.GicHistory.History.{is_signal}
use Rattle.law_lines_translate.specs.Histories.{course_of, opening_course, IdealGuest, CanOpen}
use Rattle.law_lines_translate.specs.Core.{Entered, Made, Seen, actor_count, opening, seat_at, begins, end_of_moments, ends, ideal_of, makes, own_acts, CoreMoment, IsPartedRun, MakesPost}
use Rattle.law_core_is_history.specs.Laws.{AreCalls, IsCallAt}

-- where a device is in a line, the LPI that it found there is the one that the message with which it is there signals, and no command is midway
abbrev pub PostsAreSignals : Type 0
PostsAreSignals =
    (guest : IdealGuest) (number : ℕ) (moments : List CoreMoment) (actor : ℕ) (entered : Entered) → CanOpen guest → IsPartedRun guest number moments → AreCalls guest.shape (opening guest number) (opening_course guest) moments
    → actor < actor_count guest.shape → (seat_at (end_of_moments guest.shape (opening guest number) moments) actor).local.line ≡ Some entered
    → IsTrue (is_signal (course_of (opening_course guest) (ideal_of guest.shape (opening guest number) moments)) (Device (Msi entered.pair.0 entered.pair.1)) (Raise (Lpi entered.lpi)))

-- an actor has made these steps of a part in a run, whoever acted meanwhile; a port tells of it as the part began
pub record IsUnderWay (guest : IdealGuest) (number : ℕ) (moments : List CoreMoment) (seen : Seen) (operation : Operation) (lrs : ℕ) (steps : List Made) : Type 0 where
  pub before : List CoreMoment
  pub since : List CoreMoment
  pub split : moments ≡ before ++ (record { actor = seen.actor; act = begins operation lrs }) ∷ since
  pub made : own_acts seen.actor since ≡ map makes steps
  pub guest_is : seen.guest ≡ guest
  pub local_is : seen.local ≡ (seat_at (end_of_moments guest.shape (opening guest number) before) seen.actor).local
  pub own_is : seen.own ≡ (seat_at (end_of_moments guest.shape (opening guest number) before) seen.actor).own

-- where these raise the LPI that the message's device found in a line, they end as the call of the message
abbrev pub PostsEndAsCalls : Type 0
PostsEndAsCalls =
    (guest : IdealGuest) (number : ℕ) (moments : List CoreMoment) (seen : Seen) (operation : Operation) (lrs : ℕ) (steps : List Made) (answer : Option ℕ) → CanOpen guest → IsPartedRun guest number moments
    → AreCalls guest.shape (opening guest number) (opening_course guest) moments → seen.actor < actor_count guest.shape → IsUnderWay guest number moments seen operation lrs steps → MakesPost seen steps operation answer
    → IsCallAt guest.shape (course_of (opening_course guest) (ideal_of guest.shape (opening guest number) moments)) seen.actor (ends answer)
