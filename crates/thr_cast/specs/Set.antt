-- A scenario and the words of its guests.
use Rattle.std.specs.Prelude.{◌≡◌, ℕ, ◌<◌, List, length, slice_index_or}
use Rattle.thr_trip.specs.PortOps.Opened.{no_guest}
use Rattle.thr_trip.specs.PortOps.PortCore.IdealGuests.Opening.{opening as opening_guest}
use Rattle.thr_trip.specs.PortTable.Told.{WordsTold, words_at}
use Rattle.guest_end.specs.ScnBase.declared.scenario.Scenario.{Scenario}
use Rattle.guest_end.specs.ScnBase.declared.step.Mode.TheVariants.{Threads}
use Rattle.guest_end.specs.ScnBase.Good.{IsGood}

-- the scenario is good on threads, and these are the words of its guests, by their numbers
pub record IsSet (scenario : Scenario) (words : List WordsTold) : Type 0 where
  pub good : IsGood Threads scenario
  pub each : length words ≡ length scenario.guests
  pub guest : (number : ℕ) → number < length words → (words_at words number).guest ≡ opening_guest (slice_index_or scenario.guests number no_guest)
  pub number : (number : ℕ) → number < length words → (words_at words number).number ≡ number
