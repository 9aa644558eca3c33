-- The PEs and the vCPUs of a schedule, over the port of its guests (own choice).
use Rattle.std.specs.Prelude.{◌≡◌, ℕ, ◌≤◌, ◌<◌, Bool, true, false, IsTrue, List, [], ◌++◌, length, All, Option, Some, None, slice_get, slice_set}
use Rattle.law_ends_agree.specs.Histories.{IdealGuest}
use Rattle.law_ends_agree.specs.GicIdeal.Eager.{after_step, state_shapes, step_answer}
use Rattle.law_ends_agree.specs.GicGuest.declared.outcome.Answer.{Answer}
use Rattle.law_ends_agree.specs.ScnBase.declared.pes.VcpuName.{VcpuName}
use Rattle.law_ends_agree.specs.ScnBase.declared.standing.Standing.{Standing}
use Rattle.law_ends_agree.specs.ScnBase.declared.step.Mode.TheVariants.{Schedule}
use Rattle.law_ends_agree.specs.ScnBase.declared.step.Step.{Step}
use Rattle.law_ends_agree.specs.ScnBase.Good.{is_formed, stands}
use Rattle.law_ends_agree.specs.ScnBase.Standing.{ResidentsExist, is_resident, pes_after}
use Rattle.law_ends_agree.specs.Core.{IsRun, opening}
use Rattle.law_one_thread_is_eager.specs.PortSeq.Told.{GuestTold, SeqTold, guest_at}
use Rattle.law_one_thread_is_eager.specs.LawSerialIsEager.Serial.{WholePart}
use Rattle.law_one_thread_is_eager.specs.SeqGuest.declared.vcpus.Vcpus.{Vcpus}
use Rattle.law_one_thread_is_eager.specs.PePlace.Place.{Spot, pe, shelf}
use Rattle.law_one_thread_is_eager.specs.SeqGuest.Guest.{AreAt, NoneKicked, spot_at}
use Rattle.law_one_thread_is_eager.specs.Done.{HasDone, home_after}
use Rattle.run_seq.specs.declared.machine.Machine.{Machine}
use Rattle.run_seq.specs.StepCalls.{calls_among, step_call}
use Rattle.run_seq.specs.Steps.{IsOfPe}
use Rattle.std.specs.Option.{option_to_list}
use Rattle.run_seq.specs.Agenda.{StandsOnce}

-- One guest.

-- between two steps a vCPU that stands on a PE is on it
abbrev pub place_by : Bool → Spot
place_by true = pe
place_by false = shelf

-- a guest of a port, with its vCPUs as they stand on these PEs, each of which has so many list registers: these parts were done to it, none of its vCPUs that is
-- on a PE is kicked, and with all that stands at interfaces taken back it is this guest of the ideal controller
pub record IsGuestAt (pes : List (Option VcpuName)) (lrs : ℕ) (guest : IdealGuest) (number : ℕ) (told : GuestTold) (vcpus : Vcpus) (parts : List WholePart) (ideal : IdealGuest) : Type 0 where
  pub done : ∥ HasDone guest number told vcpus parts ∥₁
  pub at : AreAt told vcpus
  pub guest_is : told.guest ≡ guest
  pub lrs_is : vcpus.lrs ≡ lrs
  pub spots : (vcpu : ℕ) → spot_at vcpus vcpu ≡ place_by (is_resident pes number vcpu)
  pub quiet : NoneKicked told vcpus
  pub home_is : ideal ≡ home_after guest number parts

-- All guests.

-- what a machine has of guests that opened in these states, whose PEs have so many list registers: by their numbers these parts were done to them, and they are these
-- guests of the ideal controller
pub record IsMachineAt (states : List IdealGuest) (lrs : ℕ) (machine : Machine) (told : SeqTold) (parts : ℕ → List WholePart) (ideals : List IdealGuest) : Type 0 where
  pub lrs_is : machine.lrs ≡ lrs
  pub few_lrs : lrs ≤ 16
  pub guests : length machine.guests.items ≡ length states
  pub ports : length told.guests ≡ length states
  pub ideals_each : length ideals ≡ length states
  pub residents : ResidentsExist (state_shapes states) machine.pes
  pub once : StandsOnce machine.pes
  pub each :
      (number : ℕ) (guest : IdealGuest) (vcpus : Vcpus) (ideal : IdealGuest) → slice_get states number ≡ Some guest → slice_get machine.guests.items number ≡ Some vcpus → slice_get ideals number ≡ Some ideal
      → IsGuestAt machine.pes lrs guest number (guest_at told number) vcpus (parts number) ideal

-- One guest acts.

-- a guest of a machine, by its number, has vCPUs, and its port tells of it
pub record HasGuest (machine : Machine) (told : SeqTold) (number : ℕ) : Type 0 where
  pub vcpus : Vcpus
  pub vcpus_are : slice_get machine.guests.items number ≡ Some vcpus
  pub port : number < length told.guests
  pub at : AreAt (guest_at told number) vcpus

-- the vCPUs of one guest of a machine, and the guest, become what this says, and all others stay
pub record GuestActs (number : ℕ) (Does : GuestTold → GuestTold → Vcpus → Vcpus → Type 0) (machine next : Machine) (told later : SeqTold) : Type 0 where
  pub before : Vcpus
  pub before_is : slice_get machine.guests.items number ≡ Some before
  pub after : Vcpus
  pub guest : GuestTold
  pub next_is : next.guests.items ≡ slice_set machine.guests.items number after
  pub lrs : next.lrs ≡ machine.lrs
  pub pes : next.pes ≡ machine.pes
  pub told_is : later.guests ≡ slice_set told.guests number guest
  pub run : ∥ IsRun guest.guest.shape (opening guest.guest guest.number) guest.world ∥₁
  pub does : Does (guest_at told number) guest before after

-- A step.

-- a step can be done: it is formed, and may follow the steps before it
pub record CanDo (states : List IdealGuest) (machine : Machine) (step : Step) : Type 0 where
  pub standing : Standing
  pub pes : standing.pes ≡ machine.pes
  pub formed : IsTrue (is_formed Schedule (length machine.pes) (state_shapes states) step)
  pub stands : IsTrue (stands Schedule standing step)

-- of a machine and its port it is said in which states the guests opened
pub record IsMachine (machine : Machine) (told : SeqTold) : Type 0 where
  pub states : List IdealGuest
  pub lrs : ℕ
  pub parts : ℕ → List WholePart
  pub ideals : List IdealGuest
  pub at : IsMachineAt states lrs machine told parts ideals

-- and that the step can be done
pub record IsReady (machine : Machine) (told : SeqTold) (step : Step) : Type 0 where
  pub of : IsMachine machine told
  pub can : CanDo of.states machine step

-- after a step each guest had the parts of the step's call done to it, if there is one of this guest, with its answer, and entries, exits and looks for kicks, as a step of a PE asks for
-- them; the guests of the ideal controller are those after the step, and the answer is what that answers
pub record HasDoneStep (states : List IdealGuest) (lrs : ℕ) (machine next : Machine) (later : SeqTold) (parts : ℕ → List WholePart) (ideals : List IdealGuest) (step : Step) (answer : Answer) : Type 0 where
  pub more : ℕ → List WholePart
  pub calls : (number : ℕ) (guest : IdealGuest) → slice_get states number ≡ Some guest → calls_among (more number) ≡ option_to_list (step_call number guest.shape step answer)
  pub of_pe : (number : ℕ) (guest : IdealGuest) → slice_get states number ≡ Some guest → IsOfPe guest number lrs machine.pes step answer (parts number) (more number)
  pub pes : next.pes ≡ pes_after step machine.pes
  pub answer_is : answer ≡ step_answer lrs machine.pes step ideals
  pub at : IsMachineAt states lrs next later (λ number. parts number ++ more number) (after_step step ideals)

-- so it is of whatever guests they are
abbrev pub DoesStep : Machine → Machine → SeqTold → SeqTold → Step → Answer → Type 0
DoesStep machine next told later step answer =
    (states : List IdealGuest) (lrs : ℕ) (parts : ℕ → List WholePart) (ideals : List IdealGuest) → IsMachineAt states lrs machine told parts ideals → CanDo states machine step
    → HasDoneStep states lrs machine next later parts ideals step answer

-- Opening and closing.

-- a machine as it opens: nothing was called, and these vCPUs stand on its PEs
pub record OpensMachine (lrs : ℕ) (states : List IdealGuest) (pes : List (Option VcpuName)) (machine : Machine) (told : SeqTold) : Type 0 where
  pub parts : ℕ → List WholePart
  pub calls : (number : ℕ) (guest : IdealGuest) → slice_get states number ≡ Some guest → calls_among (parts number) ≡ []
  pub pes_are : machine.pes ≡ pes
  pub at : IsMachineAt states lrs machine told parts states

-- after it nobody stands on a PE, and no more was called
pub record HasClosed (states : List IdealGuest) (lrs : ℕ) (next : Machine) (later : SeqTold) (parts : ℕ → List WholePart) (ideals : List IdealGuest) : Type 0 where
  pub more : ℕ → List WholePart
  pub calls : (number : ℕ) (guest : IdealGuest) → slice_get states number ≡ Some guest → calls_among (more number) ≡ []
  pub pes : All (λ resident. resident ≡ None) next.pes
  pub at : IsMachineAt states lrs next later (λ number. parts number ++ more number) ideals

abbrev pub Closes : Machine → Machine → SeqTold → SeqTold → Type 0
Closes machine next told later =
    (states : List IdealGuest) (lrs : ℕ) (parts : ℕ → List WholePart) (ideals : List IdealGuest) → IsMachineAt states lrs machine told parts ideals → HasClosed states lrs next later parts ideals
