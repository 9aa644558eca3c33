-- What is done to a guest in each step of a schedule, and how its vCPUs stand between two steps (own choice).
use Rattle.std.specs.Prelude.{◌≡◌, ℕ, ◌<◌, Bool, true, false, IsTrue, List, [], ◌∷◌, ◌++◌, take, Option, Some, None}
use Rattle.std.specs.List.{flat_map, list_any}
use Rattle.std.specs.Option.{option_to_list}
use Rattle.law_ends_agree.specs.Histories.{IdealGuest}
use Rattle.law_ends_agree.specs.Words.{Enter, Lrs}
use Rattle.law_ends_agree.specs.Core.{CoreStep, Poll, opening, end_of_moments, CoreMoment, is_paid, progress_in}
use Rattle.law_ends_agree.specs.Calls.{Regs}
use Rattle.law_ends_agree.specs.GicGuest.declared.outcome.Answer.{Answer}
use Rattle.law_ends_agree.specs.ScnBase.declared.pes.VcpuName.{VcpuName}
use Rattle.law_ends_agree.specs.ScnBase.declared.step.Step.{Step}
use Rattle.law_ends_agree.specs.ScnBase.declared.step.Step.TheVariants.{Pe}
use Rattle.law_ends_agree.specs.ScnBase.Standing.{is_resident, pes_after, resident_of, vcpu_name}
use Rattle.law_one_thread_is_eager.specs.LawSerialIsEager.LawRegistersStand.Asks.{HasAll}
use Rattle.law_one_thread_is_eager.specs.LawSerialIsEager.LawRegistersStand.Stands.{IsLoaded}
use Rattle.law_one_thread_is_eager.specs.LawSerialIsEager.Serial.{WholePart, moments_of}
use Rattle.law_one_thread_is_eager.specs.PePlace.Parts.{parts_by, steps_in}
use Rattle.law_one_thread_is_eager.specs.SeqGuest.LawEntriesArePlans.Entry.{IsEntry}
use Rattle.run_seq.specs.StepCalls.{calls_among, step_call}

-- Between two steps.

-- a vCPU is on a PE with so many list registers: it may do accesses, it owes no scan, no claim of it failed, it is not kicked, and its registers are as many
pub record IsOnPe (guest : IdealGuest) (number lrs : ℕ) (moments : List CoreMoment) (vcpu : ℕ) : Type 0 where
  pub loaded : IsLoaded (progress_in guest number moments vcpu)
  pub paid : IsTrue (is_paid (progress_in guest number moments vcpu).debt)
  pub has_all : HasAll guest.shape (end_of_moments guest.shape (opening guest number) moments) vcpu (progress_in guest number moments vcpu)
  pub lrs_is : (progress_in guest number moments vcpu).regs.n ≡ lrs

-- or it is on none: nothing is at its interface
abbrev pub StandsAs : IdealGuest → ℕ → ℕ → List CoreMoment → ℕ → Bool → Type 0
StandsAs guest number lrs moments vcpu true = IsOnPe guest number lrs moments vcpu
StandsAs guest number lrs moments vcpu false = (progress_in guest number moments vcpu).local.at ≡ []

-- after some parts each vCPU of a guest is on a PE exactly where it stands on one of these
pub record StandSo (guest : IdealGuest) (number lrs : ℕ) (pes : List (Option VcpuName)) (parts : List WholePart) : Type 0 where
  pub each : (vcpu : ℕ) → vcpu < guest.shape.vcpus → StandsAs guest number lrs (moments_of parts) vcpu (is_resident pes number vcpu)

-- A step.

-- a look for a kick with which a vCPU begins a scan of its candidates, as it enters a PE
abbrev pub begins_scan : CoreStep → Bool
begins_scan (Poll None write) = true
begins_scan step = false

-- in some parts a vCPU enters
abbrev pub enters_in : ℕ → List WholePart → Bool
enters_in vcpu parts = list_any (λ made. begins_scan made.step) (steps_in (parts_by vcpu parts))

-- a vCPU's list registers are shown: first of all it leaves its PE and enters it again, in one part; the answer is ICH_HCR and its list registers as they are then
pub record ShowsOwn (guest : IdealGuest) (number lrs vcpu : ℕ) (answer : Answer) (early more : List WholePart) : Type 0 where
  pub part : WholePart
  pub late : List WholePart
  pub first : more ≡ part ∷ late
  pub actor : part.actor ≡ vcpu
  pub entry : IsEntry part
  pub answer_is : answer ≡ (let regs = (progress_in guest number (moments_of (early ++ part ∷ [])) vcpu).regs in Regs (regs.hcr ∷ take lrs regs.lr))

-- what the parts of a step of a PE are to a guest, where these vCPUs stand on the PEs: whoever is told to enter does, and whoever stands on a PE shows its own list registers
abbrev pub IsOfPe : IdealGuest → ℕ → ℕ → List (Option VcpuName) → Step → Answer → List WholePart → List WholePart → Type 0
IsOfPe guest number lrs pes (Pe pe (Enter other vcpu)) answer early more = other ≡ number → enters_in vcpu more ≡ true
IsOfPe guest number lrs pes (Pe pe Lrs) answer early more = (vcpu : ℕ) → resident_of pes pe ≡ Some (vcpu_name number vcpu) → ShowsOwn guest number lrs vcpu answer early more
IsOfPe guest number lrs pes step answer early more = Unit {0}

-- after some parts, more are those of a step: the step's call, if it is of this guest, with its answer, and beside it entries, exits and looks for kicks; after which the vCPUs are
-- on their PEs
pub record AreOfStep (guest : IdealGuest) (number lrs : ℕ) (pes : List (Option VcpuName)) (step : Step) (answer : Answer) (early more : List WholePart) : Type 0 where
  pub calls : calls_among more ≡ option_to_list (step_call number guest.shape step answer)
  pub of_pe : IsOfPe guest number lrs pes step answer early more
  pub stand : ∥ StandSo guest number lrs (pes_after step pes) (early ++ more) ∥₁

-- All steps.

-- after some parts, these are those of each step, one after the other
abbrev pub AreOfSteps : IdealGuest → ℕ → ℕ → List (Option VcpuName) → List WholePart → List Step → List Answer → List (List WholePart) → Type 0
AreOfSteps guest number lrs pes early (step ∷ steps) (answer ∷ answers) (more ∷ each) = AreOfStep guest number lrs pes step answer early more × AreOfSteps guest number lrs (pes_after step pes) (early ++ more) steps answers each
AreOfSteps guest number lrs pes early [] [] [] = Unit {0}
AreOfSteps guest number lrs pes early steps answers each = ⊥

-- what was done to a guest of a schedule: at first the vCPUs enter that stand on these PEs as it opens; then the parts of each step come; and at last the vCPUs leave that are on a PE
pub record GoesBySteps (guest : IdealGuest) (number lrs : ℕ) (pes : List (Option VcpuName)) (steps : List Step) (answers : List Answer) (parts : List WholePart) : Type 0 where
  pub first : List WholePart
  pub each : List (List WholePart)
  pub last : List WholePart
  pub split : parts ≡ first ++ flat_map (λ more. more) each ++ last
  pub enters : calls_among first ≡ []
  pub stand : ∥ StandSo guest number lrs pes first ∥₁
  pub of_steps : AreOfSteps guest number lrs pes first steps answers each
  pub leaves : calls_among last ≡ []
