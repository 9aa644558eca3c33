-- Runs that are saved and resumed (own choice).
use Rattle.std.specs.Prelude.{◌≡◌, ℕ, ◌≤◌, List, [], ◌∷◌, ◌++◌, length, map, take}
use Rattle.law_runs_split.specs.GicIdeal.ScnBase.declared.scenario.Scenario.{Scenario}
use Rattle.law_runs_split.specs.GicIdeal.ScnBase.declared.step.Mode.TheVariants.{Schedule}
use Rattle.law_runs_split.specs.GicIdeal.ScnBase.Good.{IsGood}
use Rattle.law_runs_split.specs.GicIdeal.IdealGuests.declared.guest.IdealGuest.{IdealGuest}
use Rattle.law_runs_split.specs.GicIdeal.IdealGuests.Calls.{RunOut, GuestSpec}
use Rattle.law_runs_split.specs.GicIdeal.IdealGuests.Opening.{opening}
use Rattle.law_runs_split.specs.GicIdeal.Eager.{after_steps, eager, eager_from}
use Rattle.gic_report.specs.Text.{text}
use Rattle.gic_report.specs.Rest.{text_saved}
use Rattle.saved_take.specs.SavedGuest.ScnSaved.declared.saved.Saved.{Saved}
use Rattle.saved_take.specs.SavedGuest.ScnSaved.declared.state.GuestState.{GuestState}
use Rattle.saved_take.specs.SavedGuest.State.{state_of}
use Rattle.saved_take.specs.Taken.{saved_of}
use Rattle.law_saves_go_on.specs.GoOn.{first_lines}

-- the states that a saved run tells
abbrev pub states_of : List GuestSpec → List GuestState → List IdealGuest
states_of [] states = []
states_of (guest ∷ guests) [] = []
states_of (guest ∷ guests) (state ∷ states) = state_of guest state ∷ states_of guests states

-- what is left of a saved run, from what it tells on
abbrev pub resumed : Saved → RunOut
resumed saved = eager_from saved.scenario.lrs saved.on_pe saved.scenario.steps (map opening saved.scenario.guests) (states_of saved.scenario.guests saved.state)

-- the states that some steps of a scenario leave
abbrev pub reached : Scenario → ℕ → List IdealGuest
reached scenario done = after_steps (take done scenario.steps) (map opening scenario.guests)

-- law: the lines of the first steps of a scenario without a fault, and then the text of what was saved after them, resumed, are the text of the whole run
abbrev pub SavedThenResumed : Type 0
SavedThenResumed =
    (scenario : Scenario) (done : ℕ) → IsGood Schedule scenario → done ≤ length scenario.steps
    → text scenario (eager scenario) ≡ first_lines scenario done ++ text_saved (saved_of scenario done (reached scenario done)) (resumed (saved_of scenario done (reached scenario done)))
