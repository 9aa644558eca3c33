-- A vCPU that enters a PE while nobody else acts (own choice).
use Rattle.std.specs.Prelude.{◌≡◌, ℕ, ◌<◌, not, Bool, true, false, IsTrue, List, ◌∷◌, ◌++◌, take, None}
use Rattle.std.specs.List.{list_all}
use Rattle.law_serial_is_eager.specs.Words.{GuestShape}
use Rattle.law_serial_is_eager.specs.Calls.{Residence}
use Rattle.law_serial_is_eager.specs.Histories.{last_of, opening_course, home, IdealGuest, cpu_at, CanOpen}
use Rattle.law_serial_is_eager.specs.Lists.{IchRegs, plan, regs_of}
use Rattle.law_serial_is_eager.specs.GicIdeal.Shown.{offers_of, registers_of}
use Rattle.law_serial_is_eager.specs.Core.{Made, CoreStep, Poll, CoreState, opening, end_of_moments, ideal_of, CoreMoment, Progress, progress_in, IsProperRun}
use Rattle.law_serial_is_eager.specs.LawCoreIsHistory.Laws.{AreCalls}
use Rattle.law_serial_is_eager.specs.LawRegistersStand.Asks.{IsUnkicked}
use Rattle.law_serial_is_eager.specs.LawLateOnesLeave.Late.{AccessesComeFirst}
use Rattle.law_serial_is_eager.specs.LawLoneAccessesFindAll.Lone.{AreAtEase}
use Rattle.law_serial_is_eager.specs.Serial.{WholePart, moments_in}

-- a step is a look for a kick
abbrev pub looks_for_kick : CoreStep → Bool
looks_for_kick (Poll reg write) = true
looks_for_kick step = false

-- a part with which a vCPU enters: it is a residence, and with the last look for a kick in it a scan begins
pub record IsEntry (part : WholePart) : Type 0 where
  pub operation : part.operation ≡ Residence
  pub before : List Made
  pub look : Made
  pub after : List Made
  pub steps : part.steps ≡ before ++ look ∷ after
  pub scans : look.step ≡ Poll None None
  pub last : IsTrue (list_all (λ made. not (looks_for_kick made.step)) after)

-- a vCPU holds what that scan chose: it is not kicked, no claim or take of it failed, and it began no scan of trap mode since
pub record HasEntered (shape : GuestShape) (state : CoreState) (vcpu : ℕ) (p : Progress) : Type 0 where
  pub unkicked : IsUnkicked shape state vcpu
  pub none_failed : p.failed ≡ false
  pub untrapped : p.scanned ≡ false

-- registers of a PE with n list registers are the plan over a guest for a vCPU, and so what the ideal controller shows of it
pub record ShowsRegisters (guest : IdealGuest) (vcpu n : ℕ) (regs : IchRegs) : Type 0 where
  pub planned : regs ≡ regs_of (plan (offers_of guest) vcpu (cpu_at guest vcpu) guest.shape n) (cpu_at guest vcpu) n
  pub shown : registers_of n guest vcpu ≡ regs.hcr ∷ take n regs.lr

-- a vCPU that enters while nobody else acts, where all was at ease before, has the registers of the guest with all that stands at interfaces taken back
abbrev pub EntriesShowHome : Type 0
EntriesShowHome =
    (guest : IdealGuest) (number : ℕ) (early : List CoreMoment) (part : WholePart) → CanOpen guest → IsProperRun guest number (early ++ moments_in part) → AreCalls guest.shape (opening guest number) (opening_course guest) (early ++ moments_in part)
    → AccessesComeFirst guest number early → AreAtEase guest number early → part.actor < guest.shape.vcpus → IsEntry part
    → HasEntered guest.shape (end_of_moments guest.shape (opening guest number) (early ++ moments_in part)) part.actor (progress_in guest number (early ++ moments_in part) part.actor)
    → ShowsRegisters (home (last_of guest (ideal_of guest.shape (opening guest number) (early ++ moments_in part)))) part.actor part.lrs (progress_in guest number (early ++ moments_in part) part.actor).regs
