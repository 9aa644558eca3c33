-- Parts of a run that are told with what they found (own choice).
use Rattle.std.specs.Prelude.{◌≡◌, ℕ, ◌<◌, ◌⊎◌, true, List, [], ◌∷◌, ◌++◌}
use Rattle.law_unmapped_lpis.specs.Histories.{last_of, opening_course, IdealGuest, CanOpen, AreForNone}
use Rattle.pe_mem.specs.Core.{Seen, CoreState, opening, seat_at, MakesCall, MakesPost, end_of_moments, ideal_of, CoreMoment, IsProperRun}
use Rattle.law_serial_is_eager.specs.LawCoreIsHistory.Laws.{AreCalls}
use Rattle.law_serial_is_eager.specs.Serial.{AreFit, IsEager, WholePart, moments_in, moments_of}
use Rattle.pe_mem.specs.Found.{IsCallAsFound, takes_its_by}

-- a port tells of an actor in a state of a guest
pub record IsToldOf (guest : IdealGuest) (state : CoreState) (actor : ℕ) (seen : Seen) : Type 0 where
  pub guest_is : seen.guest ≡ guest
  pub actor_is : seen.actor ≡ actor
  pub local_is : seen.local ≡ (seat_at state actor).local
  pub own_is : seen.own ≡ (seat_at state actor).own

-- of a part after other moments it is told that it is its call, and so with whatever vCPUs the LPIs are for that agree with what it found
pub record IsFoundCall (guest : IdealGuest) (number : ℕ) (early : List CoreMoment) (part : WholePart) : Type 0 where
  pub seen : Seen
  pub told : IsToldOf guest (end_of_moments guest.shape (opening guest number) early) part.actor seen
  pub made : MakesCall seen part.steps part.operation part.answer
  pub found : IsCallAsFound seen part.steps part.operation part.answer

-- or that it is a message-signalled interrupt whose device found in a translation line which LPI the message becomes
pub record IsFoundPost (guest : IdealGuest) (number : ℕ) (early : List CoreMoment) (part : WholePart) : Type 0 where
  pub seen : Seen
  pub told : IsToldOf guest (end_of_moments guest.shape (opening guest number) early) part.actor seen
  pub post : MakesPost seen part.steps part.operation part.answer

abbrev pub IsFoundPart : IdealGuest → ℕ → List CoreMoment → WholePart → Type 0
IsFoundPart guest number early part = IsFoundCall guest number early part ⊎ IsFoundPost guest number early part

-- such a part is its call in the run, while nobody else acts; where it takes the ITS, as long as each LPI that the maps give no vCPU is for none as it begins
abbrev pub FoundPartsAreCalls : Type 0
FoundPartsAreCalls =
    (guest : IdealGuest) (number : ℕ) (early : List CoreMoment) (part : WholePart) → CanOpen guest → IsProperRun guest number (early ++ moments_in part) → AreCalls guest.shape (opening guest number) (opening_course guest) early
    → (takes_its_by guest.shape part.operation ≡ true → AreForNone (last_of guest (ideal_of guest.shape (opening guest number) early)).guest)
    → IsFoundPart guest number early part → AreCalls guest.shape (opening guest number) (opening_course guest) (early ++ moments_in part)

-- each of some parts is told so, one after the other
abbrev pub AreFoundParts : IdealGuest → ℕ → List CoreMoment → List WholePart → Type 0
AreFoundParts guest number early [] = Unit {0}
AreFoundParts guest number early (part ∷ parts) = IsFoundPart guest number early part × AreFoundParts guest number (early ++ moments_in part) parts

-- some parts are their calls, and the eager controller's
pub record AreEagerCalls (guest : IdealGuest) (number : ℕ) (parts : List WholePart) : Type 0 where
  pub calls : AreCalls guest.shape (opening guest number) (opening_course guest) (moments_of parts)
  pub eager : IsEager guest number parts

-- so it is in each proper run of such parts: each of them finds the LPIs that the maps give no vCPU for none
abbrev pub FoundRunsAreEager : Type 0
FoundRunsAreEager =
    (guest : IdealGuest) (number : ℕ) (parts : List WholePart) → CanOpen guest → IsProperRun guest number (moments_of parts) → AreFoundParts guest number [] parts → AreFit guest number [] parts → AreEagerCalls guest number parts
