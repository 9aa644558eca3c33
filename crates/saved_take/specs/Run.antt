-- The states that are saved of a run (own choice).
use Rattle.std.specs.Prelude.{◌≡◌, List, [], ◌∷◌}
use Rattle.saved_guest.specs.IdealGuests.Calls.{GuestSpec}
use Rattle.saved_guest.specs.IdealGuests.declared.guest.IdealGuest.{IdealGuest}
use Rattle.saved_guest.specs.IdealGuests.Sound.{IsSound}

-- a guest is in this state, which is sound
pub record IsStateOf (guest : GuestSpec) (state : IdealGuest) : Type 0 where
  pub sound : IsSound state
  pub shape : state.shape ≡ guest.shape

-- so is each of some guests
abbrev pub AreStatesOf : List GuestSpec → List IdealGuest → Type 0
AreStatesOf [] [] = Unit {0}
AreStatesOf [] (state ∷ states) = ⊥
AreStatesOf (guest ∷ guests) [] = ⊥
AreStatesOf (guest ∷ guests) (state ∷ states) = IsStateOf guest state × AreStatesOf guests states
