-- Laws of legal lists, one moment after the other.
use Rattle.std.specs.Prelude.{◌≡◌, ◌↔◌, List, [], ◌∷◌, ◌++◌}
use Rattle.legal_lists.specs.Calls.{Moment}
use Rattle.legal_lists.specs.Histories.{IdealGuest}
use Rattle.legal_lists.specs.Legal.{IsLegal, may_be_acknowledged}
use Rattle.legal_steps.specs.Step.{pass_of, may_all_be_answered, GoesOnLegally}

-- of all moments: each read of IAR or HPPIR is fresh, as far as what is still to come can be told, exactly where whatever still waits at their end may be answered
abbrev pub OnePassIsEnough : Type 0
OnePassIsEnough = (guest : IdealGuest) (moments : List Moment) → may_be_acknowledged guest moments ≡ may_all_be_answered guest (pass_of guest moments)

-- a legal list with one moment more is legal exactly where that goes on with it; and no moments are
pub record LegalListsGoOn : Type 0 where
  pub none : (guest : IdealGuest) → IsLegal guest []
  pub one : (guest : IdealGuest) (moments : List Moment) (moment : Moment) → IsLegal guest moments → IsLegal guest (moments ++ moment ∷ []) ↔ GoesOnLegally guest (pass_of guest moments) moment
