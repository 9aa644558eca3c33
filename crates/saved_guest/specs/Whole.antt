-- Saved runs that an image may tell, and that their guests can open (own choice).
use Rattle.std.specs.Prelude.{◌≡◌, ℕ, ◌+◌, ◌≤◌, ◌&&◌, not, List, [], ◌∷◌, length, All, Bool, true, IsTrue, ⊤, Option, Some, None}
use Rattle.ideal_guest.specs.Calls.{GuestSpec, IsGoodGuest, shapes_of}
use Rattle.ideal_guest.specs.CanOpen.{CanOpen}
use Rattle.scn_saved.specs.ScnBase.declared.pes.VcpuName.{VcpuName}
use Rattle.scn_saved.specs.ScnBase.declared.step.Mode.TheVariants.{Schedule}
use Rattle.scn_saved.specs.ScnBase.Standing.{is_resident, ResidentsExist}
use Rattle.scn_saved.specs.ScnBase.Good.{is_formed, stand_in_turn}
use Rattle.scn_saved.specs.declared.saved.Saved.{Saved}
use Rattle.scn_saved.specs.declared.state.GuestState.{GuestState}
use Rattle.saved_guest.specs.State.{state_of}
use Rattle.saved_guest.specs.Valid.{IsValidState}
use Rattle.saved_guest.specs.Standing.{standing_of}

-- no vCPU stands on two PEs
abbrev pub stand_once : List (Option VcpuName) → Bool
stand_once [] = true
stand_once (None ∷ pes) = stand_once pes
stand_once (Some name ∷ pes) = not (is_resident pes name.guest name.vcpu) && stand_once pes

-- each guest has a state, and it is valid
abbrev pub AreValidStates : List GuestSpec → List GuestState → Type 0
AreValidStates [] [] = ⊤
AreValidStates [] (state ∷ states) = ⊥
AreValidStates (guest ∷ guests) [] = ⊥
AreValidStates (guest ∷ guests) (state ∷ states) = IsValidState guest state × AreValidStates guests states

-- the run is one that can have been saved between two of its steps, so many of which are left, whatever they are
pub record IsValidRun (rest : ℕ) (saved : Saved) : Type 0 where
  -- the scenario is in range, and its guests are good
  pub some_pe : 1 ≤ saved.scenario.pes
  pub pes : saved.scenario.pes ≤ 8
  pub some_list_register : 1 ≤ saved.scenario.lrs
  pub list_registers : saved.scenario.lrs ≤ 16
  pub some_guest : 1 ≤ length saved.scenario.guests
  pub guests : length saved.scenario.guests ≤ 4
  pub each_guest : All IsGoodGuest saved.scenario.guests
  -- vCPUs stand on its PEs, each on one at most
  pub each_pe : length saved.on_pe ≡ saved.scenario.pes
  pub residents : ResidentsExist (shapes_of saved.scenario.guests) saved.on_pe
  pub once : IsTrue (stand_once saved.on_pe)
  pub states : AreValidStates saved.scenario.guests saved.state
  -- no more steps read than were done, and a scenario has at most 100000 steps
  pub reads : saved.reads ≤ saved.done
  pub steps : saved.done + rest ≤ 100000

-- the same with its steps: each that is left can be done, and may follow those before it
pub record IsValidSaved (saved : Saved) : Type 0 where
  pub run : IsValidRun (length saved.scenario.steps) saved
  pub each_step : All (λ step. IsTrue (is_formed Schedule saved.scenario.pes (shapes_of saved.scenario.guests) step)) saved.scenario.steps
  pub in_turn : IsTrue (stand_in_turn Schedule (standing_of saved) saved.scenario.steps)

-- a good guest in a valid state is one that can open
abbrev pub ValidStatesCanOpen : Type 0
ValidStatesCanOpen = (guest : GuestSpec) (state : GuestState) → IsGoodGuest guest → IsValidState guest state → CanOpen (state_of guest state)
