-- Interrupts that a vCPU ends, and that are not at its interface (own choice).
use Rattle.std.specs.Prelude.{◌≡◌, ℕ, ◌<◌, false, IsTrue, List, Some, None}
use Rattle.law_registers_stand.specs.Words.{Key, GuestShape, has_interrupt}
use Rattle.law_registers_stand.specs.Histories.{IdealGuest, CanOpen}
use Rattle.law_registers_stand.specs.Core.{CoreState, opening, end_of_moments, CoreMoment, Progress, progress_in, is_end_of, IsProperRun}
use Rattle.law_registers_stand.specs.LawCoreIsHistory.Related.{is_folding}
use Rattle.law_scans_miss_none.specs.Excuse.{IsExcused, followed_in}
use Rattle.law_scans_miss_none.specs.Waiting.{record_in}
use Rattle.law_registers_stand.specs.Asks.{IsUnkicked}

-- a vCPU that is not kicked looked at the interrupt that its call ends, and found it not active by it; no claim failed, and it does not give back what it has
pub record HasLookedFar (shape : GuestShape) (state : CoreState) (vcpu : ℕ) (p : Progress) (key : Key) : Type 0 where
  pub there : IsTrue (has_interrupt shape key)
  pub unkicked : IsUnkicked shape state vcpu
  pub stays : is_folding p.local.phase ≡ false
  pub none_failed : p.failed ≡ false
  pub ends : IsTrue (is_end_of shape vcpu p.operation key)
  pub inactive : p.far ≡ Some false

-- at every moment of every proper run: where the interrupt is at no interface and active by the vCPU all the same, the vCPU is still to be told of its last change
abbrev pub FarEndsAreKnown : Type 0
FarEndsAreKnown =
    (guest : IdealGuest) (number : ℕ) (moments : List CoreMoment) (vcpu : ℕ) (key : Key) → CanOpen guest → IsProperRun guest number moments → vcpu < guest.shape.vcpus
    → HasLookedFar guest.shape (end_of_moments guest.shape (opening guest number) moments) vcpu (progress_in guest number moments vcpu) key → (record_in guest.shape (end_of_moments guest.shape (opening guest number) moments) key).holder ≡ None
    → (record_in guest.shape (end_of_moments guest.shape (opening guest number) moments) key).act_by ≡ Some vcpu
    → IsExcused guest.shape (end_of_moments guest.shape (opening guest number) moments) (followed_in guest number moments).track vcpu key
