-- A run on threads, over the words that its actors share (own choice).
use Rattle.std.specs.Prelude.{◌≡◌, ℕ, ◌<◌, true, IsTrue, List, [], length, map, if◌then◌else◌, Some, slice_get}
use Rattle.law_threads_are_history.specs.IdealGuests.Opening.{opening as opening_guest}
use Rattle.law_threads_are_history.specs.Histories.{IdealGuest}
use Rattle.law_threads_are_history.specs.Core.{Progress, is_settled, Local, Made, actor_count, is_vcpu, Seen, local_by, opening_local_of}
use Rattle.law_threads_are_history.specs.LawEagerIsHistory.Calls.{Made as MadeCall, own_steps}
use Rattle.law_threads_are_history.specs.Registers.{CpuRec}
use Rattle.law_threads_are_history.specs.GuestEnd.declared.outcome.Done.{Done}
use Rattle.thr_cast.specs.PortTable.Told.{WordsTold, RootTold, IsDone, opening_seen, root_at, words_at}
use Rattle.thr_cast.specs.PortTable.View.{steps_of}
use Rattle.law_threads_are_history.specs.Calls.{GuestSpec}
use Rattle.law_threads_are_history.specs.GicGuest.declared.outcome.Answer.{Answer}
use Rattle.law_threads_are_history.specs.ScnBase.declared.pes.VcpuName.{VcpuName}
use Rattle.law_threads_are_history.specs.ScnBase.declared.scenario.Scenario.{Scenario}
use Rattle.law_threads_are_history.specs.ScnBase.declared.step.Step.{Step}
use Rattle.thr_cast.specs.ThrTrip.Gone.{HasGone}
use Rattle.thr_cast.specs.ThrTrip.Script.{all_vcpus}

-- an actor made these calls since its guest opened, each in one part, and beside them only entered PEs and left them, a vCPU each time a PE with so many list registers: its steps
-- are these; after them nothing is at a vCPU's interface, and the actor owes nothing, and has neither the ITS nor the mark of GICD_CTLR
pub record ActorHasRun (words : WordsTold) (lrs actor : ℕ) (own : List Made) (calls : List MadeCall) : Type 0 where
  pub seen : Seen
  pub own_is : seen.own ≡ own
  pub gone : HasGone (if is_vcpu words.guest.shape actor then lrs else 0) (opening_seen words actor) seen (λ (p : Progress). Unit {0}) calls
  pub empty : is_vcpu words.guest.shape actor ≡ true → seen.local.at ≡ []
  pub settled : IsTrue (is_settled seen.local)

-- so did each actor of a guest: those calls that the steps give it, in their order, each once and with its answer; the root has the steps of each
pub record GuestHasRun (guest : IdealGuest) (number lrs : ℕ) (steps : List Step) (answers : List Answer) (words : WordsTold) (root : RootTold) : Type 0 where
  pub guest_is : words.guest ≡ guest
  pub number_is : words.number ≡ number
  pub done : IsDone words root
  pub each : (actor : ℕ) → actor < actor_count guest.shape → ∥ ActorHasRun words lrs actor (steps_of actor root.joined) (own_steps guest.shape number actor steps answers) ∥₁

-- the record of a vCPU's CPU interface by the steps that the root has of it
abbrev pub local_of : WordsTold → RootTold → ℕ → Local
local_of words root actor = local_by words.guest.shape actor (opening_local_of words.guest words.number actor) (steps_of actor root.joined)

abbrev pub cpu_of : List WordsTold → List RootTold → VcpuName → CpuRec
cpu_of words root name = (local_of (words_at words name.guest) (root_at root name.guest) name.vcpu).cpu

-- all steps of a scenario were done on these words, by their own actors; each has an answer; and these are the records of the CPU interfaces, by guest and vCPU
pub record HasRun (scenario : Scenario) (done : Done) (words : List WordsTold) (root : List RootTold) : Type 0 where
  pub guests : length words ≡ length scenario.guests
  pub each : (number : ℕ) (guest : GuestSpec) → slice_get scenario.guests number ≡ Some guest → GuestHasRun (opening_guest guest) number scenario.lrs scenario.steps done.answers (words_at words number) (root_at root number)
  pub answers : length done.answers ≡ length scenario.steps
  pub cpus : done.cpus ≡ map (cpu_of words root) (all_vcpus words)
