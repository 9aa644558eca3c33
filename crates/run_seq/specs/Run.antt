-- The run of a schedule over its port (own choice).
use Rattle.std.specs.Prelude.{◌≡◌, ℕ, ◌<◌, IsTrue, List, [], length, Option, Some, slice_get}
use Rattle.std.specs.List.{flat_map}
use Rattle.law_ends_agree.specs.Histories.{IdealGuest}
use Rattle.law_ends_agree.specs.GicIdeal.Eager.{after_steps}
use Rattle.law_ends_agree.specs.GicGuest.declared.outcome.Answer.{Answer}
use Rattle.law_ends_agree.specs.ScnBase.declared.pes.VcpuName.{VcpuName}
use Rattle.law_ends_agree.specs.ScnBase.declared.scenario.Scenario.{Scenario}
use Rattle.law_ends_agree.specs.ScnBase.declared.step.Step.{Step}
use Rattle.law_ends_agree.specs.Core.{actor_count, is_settled}
use Rattle.law_one_thread_is_eager.specs.PortSeq.Told.{GuestTold, SeqTold, guest_at}
use Rattle.law_one_thread_is_eager.specs.LawSerialIsEager.Serial.{WholePart}
use Rattle.law_one_thread_is_eager.specs.PePlace.Parts.{entries_in}
use Rattle.law_one_thread_is_eager.specs.SeqGuest.Guest.{cpus_of, seen_by}
use Rattle.law_one_thread_is_eager.specs.Done.{AreSerial, home_after}
use Rattle.law_ends_agree.specs.GuestEnd.declared.outcome.Done.{Done}
use Rattle.run_seq.specs.Steps.{GoesBySteps}
use Rattle.run_seq.specs.Agenda.{Agenda, agenda_of, answers_by}

-- a guest whose vCPUs all left: nothing is at their interfaces, and no actor owes anything or has the ITS or the mark of GICD_CTLR
pub record IsLeft (told : GuestTold) : Type 0 where
  pub empty : (vcpu : ℕ) → vcpu < told.guest.shape.vcpus → (seen_by told vcpu).local.at ≡ []
  pub settled : (actor : ℕ) → actor < actor_count told.guest.shape → IsTrue (is_settled (seen_by told actor).local)

-- to a guest this was done since it opened, where at first these vCPUs stand on the PEs: parts of its actors, each while nobody else acts, and each of a vCPU on a PE with so many list
-- registers; they are those of the steps, one after the other; so with all that stands at interfaces taken back it is this guest of the ideal controller
pub record GuestHasRun (guest : IdealGuest) (number lrs : ℕ) (pes : List (Option VcpuName)) (steps : List Step) (answers : List Answer) (ideal : IdealGuest) (told : GuestTold) : Type 0 where
  pub parts : List WholePart
  pub guest_is : told.guest ≡ guest
  pub number_is : told.number ≡ number
  pub world : told.world ≡ entries_in parts
  pub serial : ∥ AreSerial guest number lrs parts ∥₁
  pub by_steps : GoesBySteps guest number lrs pes steps answers parts
  pub left : IsLeft told
  pub home_is : ideal ≡ home_after guest number parts

-- all steps of an agenda were done on a port whose guests opened so: so it is of each guest, with that which the ideal controller's steps leave of it; each step
-- answered what the ideal controller answers; and these are the records of the CPU interfaces, by guest and vCPU
pub record IsDone (agenda : Agenda) (done : Done) (told : SeqTold) : Type 0 where
  pub ports : length told.guests ≡ length agenda.states
  pub each :
      (number : ℕ) (guest ideal : IdealGuest) → slice_get agenda.states number ≡ Some guest → slice_get (after_steps agenda.steps agenda.states) number ≡ Some ideal
      → GuestHasRun guest number agenda.lrs agenda.pes agenda.steps done.answers ideal (guest_at told number)
  pub answers : done.answers ≡ answers_by agenda
  pub cpus : done.cpus ≡ flat_map cpus_of told.guests

-- all steps of a scenario were done on a port that opened with it
abbrev pub HasRun : Scenario → Done → SeqTold → Type 0
HasRun scenario done told = IsDone (agenda_of scenario) done told

-- the same guests, whichever of their actors are told
pub record SamePorts (old new : SeqTold) : Type 0 where
  pub ports : length new.guests ≡ length old.guests
  pub same : (number : ℕ) → guest_at new number ≡ record (guest_at old number) { actor = (guest_at new number).actor }
