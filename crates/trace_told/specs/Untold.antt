-- What an event of a trace is that says nothing which can be.
use Rattle.std.specs.Prelude.{◌≡◌, ℕ, List, Option, Some}
use Rattle.trace_read.specs.declared.trace.Act.{Act}
use Rattle.legal_play.specs.Calls.{Operation, Moment, Happened}
use Rattle.legal_play.specs.Histories.{Ideal, Course, GoesOn}
use Rattle.trace_told.specs.Told.{event_moments, moments_told}

-- it says no moments, or some that do not go on with any course in this state
abbrev pub IsUntold : Ideal → ℕ → Option Operation → List Happened → Act → Type 0
IsUntold ideal actor operation piece act = (course : Course) (moments : List Moment) → course.ideal ≡ ideal → moments_told ideal actor operation piece act ≡ Some moments → GoesOn course moments → ⊥

-- the same of an event that is neither the begin nor the end of a call
abbrev pub IsEventUntold : Ideal → ℕ → Option Operation → List Happened → Act → Type 0
IsEventUntold ideal actor operation piece act = (course : Course) (moments : List Moment) → course.ideal ≡ ideal → event_moments ideal actor operation piece act ≡ Some moments → GoesOn course moments → ⊥
