-- An access of a vCPU's CPU interface while nobody else acts (own choice).
use Rattle.std.specs.Prelude.{◌≡◌, ◌≢◌, ℕ, ◌<◌, true, false, IsTrue, List, [], ◌⊎◌, Option, Some, None}
use Rattle.law_late_ones_leave.specs.Words.{IccReg, Key, GuestShape}
use Rattle.law_late_ones_leave.specs.Histories.{asks_first, ended_by, IdealGuest, CanOpen}
use Rattle.law_late_ones_leave.specs.Core.{actor_count, CoreState, opening, seat_at, end_of_moments, CoreMoment, Progress, is_paid, progress_in, IsProperRun, is_empty}
use Rattle.law_late_ones_leave.specs.LawCoreIsHistory.Related.{is_folding}
use Rattle.law_late_ones_leave.specs.LawRegistersStand.Asks.{IsUnkicked}
use Rattle.law_late_ones_leave.specs.LawScansMissNone.Excuse.{followed_in}
use Rattle.law_late_ones_leave.specs.LawScansMissNone.Far.{HasLookedFar}
use Rattle.law_late_ones_leave.specs.LawScansMissNone.First.{MayAsk}
use Rattle.law_late_ones_leave.specs.LawScansMissNone.Index.{owes_kick}
use Rattle.law_late_ones_leave.specs.LawScansMissNone.Waiting.{record_in}
use Rattle.law_accesses_show_home.specs.UpToDate.{FindsAll, IsUpToDate}
use Rattle.law_late_ones_leave.specs.Late.{AccessesComeFirst}

-- Between two calls.

-- a vCPU is not kicked, does not give back what it has, and owes no scan
pub record IsCalm (shape : GuestShape) (state : CoreState) (vcpu : ℕ) (p : Progress) : Type 0 where
  pub unkicked : IsUnkicked shape state vcpu
  pub stays : is_folding p.local.phase ≡ false
  pub paid : IsTrue (is_paid p.debt)

-- or it has nothing at its interface
abbrev pub IsAtEase : GuestShape → CoreState → ℕ → Progress → Type 0
IsAtEase shape state vcpu p = IsTrue (is_empty p.local.at) ⊎ IsCalm shape state vcpu p

-- so is each vCPU at the end of some moments, and no actor is in a part
pub record AreAtEase (guest : IdealGuest) (number : ℕ) (moments : List CoreMoment) : Type 0 where
  pub nobody : (actor : ℕ) → actor < actor_count guest.shape → (progress_in guest number moments actor).operation ≡ None
  pub ease : (vcpu : ℕ) → vcpu < guest.shape.vcpus → IsAtEase guest.shape (end_of_moments guest.shape (opening guest number) moments) vcpu (progress_in guest number moments vcpu)

-- then no change is on its way to an interface, and nothing that is to leave one is late
abbrev pub EaseIsUpToDate : Type 0
EaseIsUpToDate =
    (guest : IdealGuest) (number : ℕ) (moments : List CoreMoment) → CanOpen guest → IsProperRun guest number moments → AccessesComeFirst guest number moments → AreAtEase guest number moments → IsUpToDate guest.shape (followed_in guest number moments)

-- Before an access.

-- a vCPU is alone at the end of some moments: no other actor is in a part, and it owes itself no kick
pub record IsAlone (guest : IdealGuest) (number : ℕ) (moments : List CoreMoment) (vcpu : ℕ) : Type 0 where
  pub nobody : (actor : ℕ) → actor < actor_count guest.shape → actor ≢ vcpu → (progress_in guest number moments actor).operation ≡ None
  pub owes_none : owes_kick vcpu (seat_at (end_of_moments guest.shape (opening guest number) moments) vcpu).local ≡ false

-- what the vCPU has to have done where its access asks for the first interrupt: it may ask, and no access waits for an interrupt
pub record IsReadyToAsk (guest : IdealGuest) (number : ℕ) (moments : List CoreMoment) (vcpu : ℕ) : Type 0 where
  pub asks : MayAsk guest.shape (end_of_moments guest.shape (opening guest number) moments) vcpu (progress_in guest number moments vcpu)
  pub unwanted : (actor : ℕ) → actor < actor_count guest.shape → (progress_in guest number moments actor).wants ≡ []

-- and where it ends one that is at no interface: it looked at it
pub record IsReadyFor (guest : IdealGuest) (number : ℕ) (moments : List CoreMoment) (vcpu : ℕ) (reg : IccReg) (write : Option ℕ) : Type 0 where
  pub first : asks_first reg write ≡ true → IsReadyToAsk guest number moments vcpu
  pub ends :
      (key : Key) → ended_by guest.shape vcpu reg write ≡ Some key → (record_in guest.shape (end_of_moments guest.shape (opening guest number) moments) key).holder ≡ None
      → HasLookedFar guest.shape (end_of_moments guest.shape (opening guest number) moments) vcpu (progress_in guest number moments vcpu) key

-- its access finds all that the guest has for it at its interface
abbrev pub LoneAccessesFindAll : Type 0
LoneAccessesFindAll =
    (guest : IdealGuest) (number : ℕ) (moments : List CoreMoment) (vcpu : ℕ) (reg : IccReg) (write : Option ℕ) → CanOpen guest → IsProperRun guest number moments → vcpu < guest.shape.vcpus → IsAlone guest number moments vcpu
    → IsReadyFor guest number moments vcpu reg write → FindsAll guest.shape (followed_in guest number moments).ideal vcpu reg write
