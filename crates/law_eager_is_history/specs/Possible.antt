-- What a run may answer: what one fresh history of each guest says (own choice).
use Rattle.std.specs.Prelude.{◌≡◌, ℕ, List, length, Some, slice_get}
use Rattle.floor_histories.specs.Calls.{Moment, GuestSpec, RunOut}
use Rattle.floor_histories.specs.Histories.{IsFresh, IsHistory, IsWhole, last_of, home, IdealGuest}
use Rattle.gic_ideal.specs.Ends.{end_of}
use Rattle.floor_histories.specs.IdealGuests.Opening.{opening}
use Rattle.gic_ideal.specs.ScnBase.declared.scenario.Scenario.{Scenario}
use Rattle.law_eager_is_history.specs.Calls.{calls_of, own_steps}

-- moments are a fresh history of a guest in which all calls ended
pub record IsFreshWhole (guest : IdealGuest) (moments : List Moment) : Type 0 where
  pub history : IsHistory guest moments
  pub fresh : IsFresh guest moments
  pub whole : IsWhole guest moments

-- what a run answers of the guest of a number: in a fresh history of it from its opening each actor makes its operations of the scenario, in order, each once, with these
-- answers, and the guest's end is that of the last state, with all that is at an interface taken back
pub record IsPossibleOf (scenario : Scenario) (out : RunOut) (n : ℕ) (guest : GuestSpec) : Type 0 where
  pub moments : List Moment
  pub is : IsFreshWhole (opening guest) moments
  pub calls : (actor : ℕ) → calls_of actor moments ≡ own_steps guest.shape n actor scenario.steps out.answers
  pub ends : slice_get out.ends n ≡ Some (end_of (opening guest) (home (last_of (opening guest) moments)))

-- what a run answers, of all guests; there is an answer for each step, and an end for each guest
pub record IsPossible (scenario : Scenario) (out : RunOut) : Type 0 where
  pub answers : length out.answers ≡ length scenario.steps
  pub ends : length out.ends ≡ length scenario.guests
  pub each : (n : ℕ) (guest : GuestSpec) → slice_get scenario.guests n ≡ Some guest → ∥ IsPossibleOf scenario out n guest ∥₁
