-- What a run is to do, on guests in whatever states they opened (own choice).
use Rattle.std.specs.Prelude.{◌≡◌, ℕ, ◌≤◌, IsTrue, All, List, length, map, Option, Some, slice_get}
use Rattle.law_ends_agree.specs.Histories.{IdealGuest}
use Rattle.law_ends_agree.specs.IdealGuests.Opening.{opening as opening_guest}
use Rattle.law_ends_agree.specs.GicIdeal.Eager.{answers_of, state_shapes}
use Rattle.law_ends_agree.specs.Calls.{shapes_of}
use Rattle.law_ends_agree.specs.GicGuest.declared.outcome.Answer.{Answer}
use Rattle.law_ends_agree.specs.ScnBase.declared.pes.VcpuName.{VcpuName}
use Rattle.law_ends_agree.specs.ScnBase.declared.scenario.Scenario.{Scenario}
use Rattle.law_ends_agree.specs.ScnBase.declared.standing.Standing.{Standing}
use Rattle.law_ends_agree.specs.ScnBase.declared.step.Mode.TheVariants.{Schedule}
use Rattle.law_ends_agree.specs.ScnBase.declared.step.Step.{Step}
use Rattle.law_ends_agree.specs.ScnBase.Good.{is_formed, stand_in_turn}
use Rattle.law_ends_agree.specs.ScnBase.Standing.{ResidentsExist, opening_pes}
use Rattle.law_one_thread_is_eager.specs.PortSeq.Told.{GuestTold, SeqTold}
use Rattle.run_seq.specs.declared.start.Start.{Start}

-- the list registers of each PE, the guests as they opened, which vCPU stands on each PE at first, and the steps
pub record Agenda : Type 0 where
  pub lrs : ℕ
  pub states : List IdealGuest
  pub pes : List (Option VcpuName)
  pub steps : List Step

-- that of a scenario: its guests open, and the vCPUs stand on the PEs in their order
abbrev pub agenda_of : Scenario → Agenda
agenda_of scenario =
    record {
      lrs = scenario.lrs;
      states = map opening_guest scenario.guests;
      pes = opening_pes scenario.pes (shapes_of scenario.guests);
      steps = scenario.steps;
    }

-- the states in which the guests of a port opened, and what is to be done on them
abbrev pub states_in : SeqTold → List IdealGuest
states_in told = map (λ (guest : GuestTold). guest.guest) told.guests

abbrev pub agenda_on : SeqTold → Start → List Step → Agenda
agenda_on told start steps = record { lrs = start.lrs; states = states_in told; pes = start.pes; steps = steps }

-- what the ideal controller answers to the steps
abbrev pub answers_by : Agenda → List Answer
answers_by agenda = answers_of agenda.lrs agenda.pes agenda.steps agenda.states

-- no vCPU stands on two PEs
pub record StandsOnce (pes : List (Option VcpuName)) : Type 0 where
  pub same : (one other : ℕ) (name : VcpuName) → slice_get pes one ≡ Some (Some name) → slice_get pes other ≡ Some (Some name) → one ≡ other

-- a run can begin so: there are 1 to 16 list registers a PE, at most 4 guests and 8 PEs, and whoever stands on a PE is there, and on one alone
pub record CanStart (lrs : ℕ) (states : List IdealGuest) (pes : List (Option VcpuName)) : Type 0 where
  pub some_list_register : 1 ≤ lrs
  pub list_registers : lrs ≤ 16
  pub few : length states ≤ 4
  pub few_pes : length pes ≤ 8
  pub residents : ResidentsExist (state_shapes states) pes
  pub once : StandsOnce pes

-- and each step can be done, after those before it
pub record CanBeDone (agenda : Agenda) : Type 0 where
  pub start : CanStart agenda.lrs agenda.states agenda.pes
  pub each_step : All (λ step. IsTrue (is_formed Schedule (length agenda.pes) (state_shapes agenda.states) step)) agenda.steps
  pub standing : Standing
  pub stands : standing.pes ≡ agenda.pes
  pub in_turn : IsTrue (stand_in_turn Schedule standing agenda.steps)
