-- The registers of a vCPU stand for its interface (own choice; IHI 0069, "Usage model for the List registers").
use Rattle.std.specs.Prelude.{◌⊎◌, ℕ, ◌<◌, Bool, true, IsTrue, List, [], ◌∷◌}
use Rattle.law_core_is_history.specs.Words.{GuestShape, is_number, irq_of}
use Rattle.law_core_is_history.specs.Histories.{IdealGuest, CanOpen}
use Rattle.law_core_is_history.specs.Core.{CoreStep, Claim, is_ready, Act, begins, makes, ends, CoreMoment, own_acts, Progress, is_paid, opening_progress, progressed, progress_in, IsProperRun, RegistersAgree, Scan, idle, is_idle}

-- a vCPU may do accesses: no scan of it is in progress, and it has looked at its candidates since it last held nothing
pub record IsLoaded (p : Progress) : Type 0 where
  pub scan : IsTrue (is_idle p.scan)
  pub ready : IsTrue (is_ready p.local.phase)

-- an interrupt that a vCPU takes to its interface with no scan in progress, to end it there, was found active by it
abbrev pub takes_active : ℕ → Scan → CoreStep → ℕ → Bool
takes_active vcpu idle (Claim key seen) found = is_number vcpu (irq_of found).act_by
takes_active vcpu scan step found = true

abbrev pub finds_active : ℕ → Progress → Act → Bool
finds_active vcpu p (makes made) = takes_active vcpu p.scan made.step made.found
finds_active vcpu p (begins operation lrs) = true
finds_active vcpu p (ends answer) = true

-- so was each of them in what a vCPU does that is so far
abbrev pub EndsActive : GuestShape → ℕ → Progress → List Act → Type 0
EndsActive shape vcpu p [] = Unit {0}
EndsActive shape vcpu p (act ∷ acts) = IsTrue (finds_active vcpu p act) × EndsActive shape vcpu (progressed shape vcpu p act) acts

-- at every moment of every proper run, of a vCPU that may do accesses and owes no scan, or that found each interrupt active that it took to its interface to end
-- it there
abbrev pub RegistersStand : Type 0
RegistersStand =
    (guest : IdealGuest) (number : ℕ) (moments : List CoreMoment) (vcpu : ℕ) → CanOpen guest → IsProperRun guest number moments → vcpu < guest.shape.vcpus → IsLoaded (progress_in guest number moments vcpu)
    → IsTrue (is_paid (progress_in guest number moments vcpu).debt) ⊎ EndsActive guest.shape vcpu (opening_progress guest number vcpu) (own_acts vcpu moments)
    → RegistersAgree (progress_in guest number moments vcpu).regs (progress_in guest number moments vcpu).local
