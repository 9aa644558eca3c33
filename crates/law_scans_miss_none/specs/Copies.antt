-- A vCPU's own copy of EnableLPIs (own choice).
use Rattle.std.specs.Prelude.{◌≡◌, ℕ, ◌<◌, false, List}
use Rattle.law_registers_stand.specs.Histories.{IdealGuest, CanOpen}
use Rattle.law_registers_stand.specs.Core.{Vcpu, vcpu_of, opening, word_in, end_of_moments, CoreMoment, progress_in, IsProperRun}
use Rattle.law_registers_stand.specs.LawCoreIsHistory.Related.{is_folding}
use Rattle.law_registers_stand.specs.Asks.{IsUnkicked}

-- at every moment of every proper run, the copy of a vCPU that is not kicked and does not give back what it has is what its word says
abbrev pub CopiesAreCurrent : Type 0
CopiesAreCurrent =
    (guest : IdealGuest) (number : ℕ) (moments : List CoreMoment) (vcpu : ℕ) → CanOpen guest → IsProperRun guest number moments → vcpu < guest.shape.vcpus → IsUnkicked guest.shape (end_of_moments guest.shape (opening guest number) moments) vcpu
    → is_folding (progress_in guest number moments vcpu).local.phase ≡ false
    → (progress_in guest number moments vcpu).local.cpu.lpis ≡ (vcpu_of (word_in guest.shape (end_of_moments guest.shape (opening guest number) moments) (Vcpu vcpu))).lpis
