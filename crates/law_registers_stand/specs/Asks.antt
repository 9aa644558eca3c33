-- Which maintenance interrupts a vCPU's registers ask for, and that none is asserted (IHI 0069, ICH_HCR_EL2 and ICH_MISR_EL2).
use Rattle.std.specs.Prelude.{◌≡◌, ℕ, ◌<◌, not, true, false, IsTrue, List, Contains}
use Rattle.std.specs.List.{list_any}
use Rattle.law_core_is_history.specs.Words.{GuestShape, has_bit}
use Rattle.law_core_is_history.specs.Lists.{IchRegs, hcr_npie, hcr_vgrp0eie, hcr_vgrp0die, hcr_vgrp1eie, hcr_vgrp1die, listed_of, is_pending, misr_of, has_ended}
use Rattle.law_core_is_history.specs.Registers.{CpuRec}
use Rattle.law_core_is_history.specs.Histories.{IdealGuest, CanOpen}
use Rattle.law_core_is_history.specs.Core.{Vcpu, vcpu_of, CoreState, opening, word_in, end_of_moments, CoreMoment, Progress, is_paid, progress_in, IsProperRun}
use Rattle.law_registers_stand.specs.Stands.{IsLoaded}

-- the registers ask for the maintenance interrupt of each change of a group's enable: that it is enabled where it is not, and that it is disabled where it is
pub record IsMirrored (hcr : ℕ) (cpu : CpuRec) : Type 0 where
  pub enabled0 : has_bit hcr hcr_vgrp0eie ≡ not cpu.en0
  pub disabled0 : has_bit hcr hcr_vgrp0die ≡ cpu.en0
  pub enabled1 : has_bit hcr hcr_vgrp1eie ≡ not cpu.en1
  pub disabled1 : has_bit hcr hcr_vgrp1die ≡ cpu.en1

-- no maintenance interrupt is asserted: where that of no pending interrupt is asked for, some list register has State 1, and none has an end to be seen
pub record IsQuiet (regs : IchRegs) : Type 0 where
  pub misr : misr_of regs ≡ 0
  pub pending : has_bit regs.hcr hcr_npie ≡ true → list_any is_pending (listed_of regs) ≡ true
  pub ended : (word : ℕ) → Contains (listed_of regs) word → has_ended word ≡ false

-- a vCPU may do accesses, is not in trap mode, and owes no scan
pub record IsFilled (p : Progress) : Type 0 where
  pub loaded : IsLoaded p
  pub untrapped : p.trapping ≡ false
  pub paid : IsTrue (is_paid p.debt)

-- so a vCPU's registers ask at every moment of every proper run where it is such
abbrev pub GroupsMirrored : Type 0
GroupsMirrored =
    (guest : IdealGuest) (number : ℕ) (moments : List CoreMoment) (vcpu : ℕ) → CanOpen guest → IsProperRun guest number moments → vcpu < guest.shape.vcpus → IsFilled (progress_in guest number moments vcpu)
    → IsMirrored (progress_in guest number moments vcpu).regs.hcr (progress_in guest number moments vcpu).local.cpu

-- a vCPU is not kicked
abbrev pub IsUnkicked : GuestShape → CoreState → ℕ → Type 0
IsUnkicked shape state vcpu = (vcpu_of (word_in shape state (Vcpu vcpu))).kick ≡ false

-- a vCPU claimed and took all that it chose, since it is not kicked and kicks itself after each claim and take that failed
pub record HasAll (shape : GuestShape) (state : CoreState) (vcpu : ℕ) (p : Progress) : Type 0 where
  pub none_failed : p.failed ≡ false
  pub unkicked : IsUnkicked shape state vcpu

-- and then none is asserted
abbrev pub NoneAsserted : Type 0
NoneAsserted =
    (guest : IdealGuest) (number : ℕ) (moments : List CoreMoment) (vcpu : ℕ) → CanOpen guest → IsProperRun guest number moments → vcpu < guest.shape.vcpus → IsFilled (progress_in guest number moments vcpu)
    → HasAll guest.shape (end_of_moments guest.shape (opening guest number) moments) vcpu (progress_in guest number moments vcpu) → IsQuiet (progress_in guest number moments vcpu).regs
