-- Laws of the eager controller.
use Rattle.std.specs.Prelude.{◌≡◌, ℕ, List, map, Some, slice_get}
use Rattle.floor_histories.specs.Calls.{Moment, GuestSpec}
use Rattle.floor_histories.specs.Histories.{last_of, home}
use Rattle.gic_ideal.specs.Eager.{eager, after_steps}
use Rattle.floor_histories.specs.IdealGuests.Opening.{opening}
use Rattle.gic_ideal.specs.ScnBase.declared.scenario.Scenario.{Scenario}
use Rattle.gic_ideal.specs.ScnBase.declared.step.Mode.TheVariants.{Schedule}
use Rattle.gic_ideal.specs.ScnBase.Good.{IsGood}
use Rattle.law_eager_is_history.specs.Calls.{calls_of, own_steps}
use Rattle.law_eager_is_history.specs.Moments.{history_of}
use Rattle.law_eager_is_history.specs.Possible.{IsFreshWhole, IsPossible}

-- the steps of a scenario are a fresh history of the guest of a number, in which each actor makes its operations with the answers of the eager controller,
-- and whose last state is the guest in which that ends
pub record IsHistoryOfEager (scenario : Scenario) (n : ℕ) (guest : GuestSpec) (moments : List Moment) : Type 0 where
  pub is : IsFreshWhole (opening guest) moments
  pub calls : (actor : ℕ) → calls_of actor moments ≡ own_steps guest.shape n actor scenario.steps (eager scenario).answers
  pub ends : slice_get (after_steps scenario.steps (map opening scenario.guests)) n ≡ Some (home (last_of (opening guest) moments))

abbrev pub EagerIsAHistory : Type 0
EagerIsAHistory =
    (scenario : Scenario) (n : ℕ) (guest : GuestSpec) → IsGood Schedule scenario → slice_get scenario.guests n ≡ Some guest
    → IsHistoryOfEager scenario n guest (history_of n scenario.steps (opening guest))

-- so what the eager controller answers is possible
abbrev pub EagerIsPossible : Type 0
EagerIsPossible = (scenario : Scenario) → IsGood Schedule scenario → IsPossible scenario (eager scenario)
