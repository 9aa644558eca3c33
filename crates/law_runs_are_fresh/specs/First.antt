-- A vCPU that asks for its first interrupt while no other actor is in a part finds the first of all that are not at another's interface (own choice).
use Rattle.std.specs.Prelude.{◌≡◌, ◌≢◌, ℕ, ◌<◌, ◌&&◌, true, false, List, ◌∷◌, ◌++◌, Option, Some, None, if◌then◌else◌}
use Rattle.std.specs.List.{filter_map, range_with_len}
use Rattle.law_serial_is_eager.specs.Words.{IccReg, interrupt_count, intid_of, key_at}
use Rattle.law_serial_is_eager.specs.Histories.{asks_first, opening_course, emptied, Ideal, interface_at, is_home, irq_at, cpu_at, IdealGuest, CanOpen}
use Rattle.law_serial_is_eager.specs.Registers.{Candidate, first_of, is_deliverable, candidates_at}
use Rattle.law_serial_is_eager.specs.Core.{Made, Poll, actor_count, vcpu_of, opening, makes, CoreMoment, progress_in, IsProperRun}
use Rattle.law_serial_is_eager.specs.LawCoreIsHistory.Laws.{AreCalls}
use Rattle.law_serial_is_eager.specs.LawCoreIsHistory.Whole.{AreEnded}
use Rattle.law_serial_is_eager.specs.LawScansMissNone.Excuse.{followed_in}

-- what would be deliverable to a vCPU if nothing stood at its own interface: what stands at another's is left out
abbrev pub own_candidate : Ideal → ℕ → ℕ → Option Candidate
own_candidate back vcpu place =
    let key = key_at back.guest.shape place in let irq = irq_at back.guest key in
    if is_home back key && is_deliverable key irq vcpu (cpu_at back.guest vcpu) back.guest.shape then Some (record { id = intid_of key; prio = irq.prio; group = irq.group }) else None

abbrev pub own_candidates : Ideal → ℕ → List Candidate
own_candidates state vcpu = let back = emptied state vcpu in filter_map (own_candidate back vcpu) (range_with_len 0 (interrupt_count back.guest.shape))

-- a vCPU reads IAR or HPPIR and finds no kick
pub record Asks (guest : IdealGuest) (vcpu : ℕ) (made : Made) : Type 0 where
  pub few : vcpu < guest.shape.vcpus
  pub reg : IccReg
  pub asks : asks_first reg None ≡ true
  pub step_is : made.step ≡ Poll (Some reg) None
  pub unkicked : (vcpu_of made.found).kick ≡ false

-- so it does after some moments of a run, and no other actor is in a part
pub record AsksAlone (guest : IdealGuest) (number : ℕ) (early : List CoreMoment) (vcpu : ℕ) (made : Made) : Type 0 where
  pub read : Asks guest vcpu made
  pub nobody : (actor : ℕ) → actor < actor_count guest.shape → actor ≢ vcpu → (progress_in guest number early actor).operation ≡ None

abbrev pub AcknowledgesFindTheFirst : Type 0
AcknowledgesFindTheFirst =
    (guest : IdealGuest) (number : ℕ) (early late : List CoreMoment) (vcpu : ℕ) (made : Made) → CanOpen guest
    → let moments = early ++ (record { actor = vcpu; act = makes made }) ∷ late in IsProperRun guest number moments → AreCalls guest.shape (opening guest number) (opening_course guest) moments → AreEnded guest.shape moments
    → AsksAlone guest number early vcpu made → let state = (followed_in guest number early).ideal in first_of (candidates_at (interface_at state vcpu)) ≡ first_of (own_candidates state vcpu)
