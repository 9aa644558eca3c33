-- What the actors of one guest do in a step, and what the step answers (own choice).
use Rattle.std.specs.Prelude.{◌≡◌, ◌≢◌, ℕ, ◌+◌, ◌<◌, true, IsTrue, List, [], replicate, Option, Some, None}
use Rattle.law_ends_agree.specs.Words.{DeviceOp, GuestOp, Enter, Exit, Lrs}
use Rattle.law_ends_agree.specs.Calls.{Operation, Access, Device as DeviceCall, Regs, is_good_op, is_good_event}
use Rattle.law_ends_agree.specs.GuestEnd.Outcome.{answer_by}
use Rattle.law_ends_agree.specs.GicGuest.declared.outcome.Answer.{Answer}
use Rattle.law_ends_agree.specs.GicGuest.declared.outcome.Answer.TheVariants.{Nothing}
use Rattle.law_ends_agree.specs.ScnBase.declared.pes.VcpuName.{VcpuName}
use Rattle.law_ends_agree.specs.ScnBase.declared.step.Step.{Step}
use Rattle.law_ends_agree.specs.ScnBase.declared.step.Step.TheVariants.{Vcpu, Device, Pe}
use Rattle.law_ends_agree.specs.ScnBase.Standing.{resident_of}
use Rattle.law_one_thread_is_eager.specs.PortSeq.Told.{GuestTold, SeqTold, guest_at}
use Rattle.law_one_thread_is_eager.specs.LawSerialIsEager.Serial.{is_icc}
use Rattle.law_one_thread_is_eager.specs.SeqGuest.declared.vcpus.Vcpus.{Vcpus}
use Rattle.law_one_thread_is_eager.specs.PePlace.Parts.{AreResidences, HaveCall}
use Rattle.law_one_thread_is_eager.specs.PePlace.Place.{Spot, aside, pe, entered, left}
use Rattle.law_one_thread_is_eager.specs.SeqGuest.Guest.{ChangesSpots, GoesOn, NoneKicked, ShowsList, for_none, for_one, spot_at}
use Rattle.run_seq.specs.declared.machine.Machine.{Machine}
use Rattle.run_seq.specs.Machine.{GuestActs, HasGuest}

-- What is done.

-- a vCPU entered or left, so that where it is changed so, and others left and entered; none of them is kicked then
pub record MovesVcpu (vcpu : ℕ) (change : Spot → Spot) (old new : GuestTold) (before after : Vcpus) : Type 0 where
  pub goes_on : GoesOn AreResidences old new before after
  pub spots : ChangesSpots (for_one vcpu change) before after
  pub quiet : NoneKicked new after

-- the registers of the PE that a vCPU is on were shown
pub record ShowsVcpu (vcpu : ℕ) (list : List ℕ) (old new : GuestTold) (before after : Vcpus) : Type 0 where
  pub shown : ShowsList old new before after vcpu list
  pub spots : ChangesSpots for_none before after
  pub quiet : NoneKicked new after

-- an actor made a call, and vCPUs left and entered, each of which is where it was; an access of a CPU interface came first; none of them is kicked then
pub record CallsOnce (actor : ℕ) (operation : Operation) (answer : Option ℕ) (old new : GuestTold) (before after : Vcpus) : Type 0 where
  pub goes_on : GoesOn (HaveCall actor operation answer) old new before after
  pub first : is_icc operation ≡ true → goes_on.are.early ≡ []
  pub spots : ChangesSpots for_none before after
  pub quiet : NoneKicked new after

-- What is asked for that.

-- a vCPU is one of a guest of the machine
pub record HasVcpu (machine : Machine) (told : SeqTold) (name : VcpuName) : Type 0 where
  pub guest : HasGuest machine told name.guest
  pub there : name.vcpu < (guest_at told name.guest).guest.shape.vcpus

-- and it is on its PE
pub record HasLoaded (machine : Machine) (told : SeqTold) (name : VcpuName) : Type 0 where
  pub one : HasVcpu machine told name
  pub on : spot_at one.guest.vcpus name.vcpu ≡ pe

-- it can do this, and no vCPU of its guest has left its PE for a while
pub record CanOperate (machine : Machine) (told : SeqTold) (name : VcpuName) (op : GuestOp) : Type 0 where
  pub loaded : HasLoaded machine told name
  pub none : (other : ℕ) → spot_at loaded.one.guest.vcpus other ≢ aside
  pub good : IsTrue (is_good_op (guest_at told name.guest).guest.shape op)

-- a device of a guest can do this
pub record CanReceive (machine : Machine) (told : SeqTold) (number device : ℕ) (op : DeviceOp) : Type 0 where
  pub guest : HasGuest machine told number
  pub there : device < (guest_at told number).guest.shape.devices
  pub good : IsTrue (is_good_event (guest_at told number).guest.shape op)

-- Steps.

-- nothing was done
pub record IsIdle (machine next : Machine) (told later : SeqTold) : Type 0 where
  pub machine_is : next ≡ machine
  pub told_is : later ≡ told

-- a vCPU called, and its step answers what the call did
pub record Operates (machine next : Machine) (told later : SeqTold) (name : VcpuName) (op : GuestOp) (answer : Answer) : Type 0 where
  pub value : Option ℕ
  pub answer_is : answer ≡ answer_by value
  pub acts : GuestActs name.guest (CallsOnce name.vcpu (Access op) value) machine next told later

-- a device called
pub record Receives (machine next : Machine) (told later : SeqTold) (number device : ℕ) (op : DeviceOp) (answer : Answer) : Type 0 where
  pub answer_is : answer ≡ Nothing
  pub acts : GuestActs number (CallsOnce ((guest_at told number).guest.shape.vcpus + device) (DeviceCall op) None) machine next told later

-- a vCPU entered a PE, or left it
pub record Places (machine next : Machine) (told later : SeqTold) (name : VcpuName) (change : Spot → Spot) (answer : Answer) : Type 0 where
  pub answer_is : answer ≡ Nothing
  pub acts : GuestActs name.guest (MovesVcpu name.vcpu change) machine next told later

-- whoever stood on a PE left it
abbrev pub Exits : Machine → Machine → SeqTold → SeqTold → Option VcpuName → Answer → Type 0
Exits machine next told later None answer = IsIdle machine next told later × (answer ≡ Nothing)
Exits machine next told later (Some name) answer = Places machine next told later name left answer

-- the registers of a PE are shown: of one on which nobody stands, zeros
pub record ShowsName (machine next : Machine) (told later : SeqTold) (name : VcpuName) (answer : Answer) : Type 0 where
  pub list : List ℕ
  pub answer_is : answer ≡ Regs list
  pub acts : GuestActs name.guest (ShowsVcpu name.vcpu list) machine next told later

abbrev pub ShowsPe : Machine → Machine → SeqTold → SeqTold → Option VcpuName → Answer → Type 0
ShowsPe machine next told later None answer = IsIdle machine next told later × (answer ≡ Regs (replicate (machine.lrs + 1) 0))
ShowsPe machine next told later (Some name) answer = ShowsName machine next told later name answer

-- what a step does before the PEs are noted anew
abbrev pub ActsAs : Machine → Machine → SeqTold → SeqTold → Step → Answer → Type 0
ActsAs machine next told later (Vcpu guest vcpu op) answer = Operates machine next told later (record { guest = guest; vcpu = vcpu }) op answer
ActsAs machine next told later (Device guest device op) answer = Receives machine next told later guest device op answer
ActsAs machine next told later (Pe number (Enter guest vcpu)) answer = Places machine next told later (record { guest = guest; vcpu = vcpu }) entered answer
ActsAs machine next told later (Pe number Exit) answer = Exits machine next told later (resident_of machine.pes number) answer
ActsAs machine next told later (Pe number Lrs) answer = ShowsPe machine next told later (resident_of machine.pes number) answer
