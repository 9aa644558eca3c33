-- Each step of the core is what it stands for in the ideal controller.
use Rattle.std.specs.Prelude.{◌≡◌, ℕ, IsTrue, Option, Some, None}
use Rattle.law_lines_translate.specs.Words.{GuestShape}
use Rattle.law_lines_translate.specs.Calls.{Happened, CanHappen}
use Rattle.law_lines_translate.specs.Histories.{Ideal, is_allowed, handed_out, happened}
use Rattle.law_lines_translate.specs.Core.{Entry, CoreState, seat_at, after, stands_for}
use Rattle.law_core_is_history.specs.Related.{Related}

-- an event happens in the ideal controller as it may, hands out what it has to, and leads to a state that the core's state agrees with
pub record IsEventOf (shape : GuestShape) (core : CoreState) (ideal : Ideal) (actor : ℕ) (one : Happened) : Type 0 where
  pub can : CanHappen shape one.event
  pub allowed : IsTrue (is_allowed ideal actor one.event)
  pub hands : one.found ≡ handed_out ideal one.event
  pub related : Related shape core (happened actor one.event ideal)

-- a step that stands for nothing changes nothing of the ideal controller, and one that stands for an event is that
abbrev pub IsSimulatedAs : GuestShape → CoreState → Ideal → ℕ → Option Happened → Type 0
IsSimulatedAs shape core ideal actor None = Related shape core ideal
IsSimulatedAs shape core ideal actor (Some one) = IsEventOf shape core ideal actor one

-- what the step of an entry stands for
abbrev pub event_of : GuestShape → CoreState → Entry → Option Happened
event_of shape state entry =
    let seat = seat_at state entry.actor in stands_for shape entry.actor seat.local seat.own entry.made.step entry.made.found

abbrev pub IsSimulated : GuestShape → CoreState → Ideal → Entry → Type 0
IsSimulated shape state ideal entry = IsSimulatedAs shape (after shape state entry) ideal entry.actor (event_of shape state entry)
