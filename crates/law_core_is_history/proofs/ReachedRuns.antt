-- The moments that runs come to.
use Rattle.std.proofs.Common.{ℕ, Option, Some, None}
use Rattle.law_lines_translate.specs.Words.{GuestShape, IsShape}
use Rattle.law_lines_translate.specs.Calls.{Happened}
use Rattle.law_lines_translate.specs.Histories.{happened, Ideal, IdealGuest, CanOpen}
use Rattle.law_lines_translate.specs.GicHistory.State.{opening as opening_ideal}
use Rattle.law_lines_translate.specs.Core.{Entry, CoreState, opening, after, Takes, IsSound}
use Rattle.law_lines_translate.proofs.PortCore.OpeningLemmas.{opens_sound}
use Rattle.law_lines_translate.proofs.PortCore.StepLemmas.{steps_sound}
use Rattle.law_core_is_history.specs.Known.{IsKnown}
use Rattle.law_core_is_history.specs.Related.{Related}
use Rattle.law_core_is_history.specs.Simulates.{IsSimulatedAs, event_of}
use Rattle.law_core_is_history.proofs.KnownSteps.{keeps_known}
use Rattle.law_core_is_history.proofs.RunSteps.{entry_simulates, related_opens, known_opens}

-- a moment of a run: a state of the ideal controller agrees with the core's
pub record IsReached (shape : GuestShape) (state : CoreState) : Type 0 where
  pub sound : IsSound shape state
  pub known : IsKnown shape state
  pub ideal : Ideal
  pub related : Related shape state ideal

pub reaches_next : (shape : GuestShape) (state : CoreState) (entry : Entry) → IsShape shape → IsReached shape state → Takes shape state entry → IsReached shape (after shape state entry)
reaches_next shape state entry good at takes =
    let next = steps_sound shape state entry good at.sound takes in
    let known = keeps_known shape state entry good at.sound takes next at.known in
    of (event_of shape state entry) (entry_simulates shape state at.ideal entry good at.sound at.related at.known takes) next known
  where
    of : (o : Option Happened) → IsSimulatedAs shape (after shape state entry) at.ideal entry.actor o → IsSound shape (after shape state entry) → IsKnown shape (after shape state entry) → IsReached shape (after shape state entry)
    of None related next known = record { sound = next; known = known; ideal = at.ideal; related = related }
    of (Some happening) is next known = record { sound = next; known = known; ideal = happened entry.actor happening.event at.ideal; related = is.related }

pub reached_opens : (guest : IdealGuest) (number : ℕ) → CanOpen guest → IsReached guest.shape (opening guest number)
reached_opens guest number good = record { sound = opens_sound guest number good; known = known_opens guest number good; ideal = opening_ideal guest; related = related_opens guest number good }
