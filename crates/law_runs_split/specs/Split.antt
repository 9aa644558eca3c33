-- Runs of the ideal controller that go on from states, and runs in two parts (own choice).
use Rattle.std.specs.Prelude.{◌≡◌, ℕ, ◌++◌, List, map, fold, Option}
use Rattle.gic_ideal.specs.ScnBase.declared.scenario.Scenario.{Scenario}
use Rattle.gic_ideal.specs.ScnBase.declared.step.Step.{Step}
use Rattle.gic_ideal.specs.ScnBase.declared.pes.VcpuName.{VcpuName}
use Rattle.gic_ideal.specs.ScnBase.Standing.{opening_pes, pes_after}
use Rattle.gic_ideal.specs.IdealGuests.declared.guest.IdealGuest.{IdealGuest}
use Rattle.gic_ideal.specs.IdealGuests.Calls.{RunOut, shapes_of}
use Rattle.gic_ideal.specs.IdealGuests.Opening.{opening}
use Rattle.gic_ideal.specs.Eager.{answers_of, after_steps, eager_from, eager}

-- which vCPU stands on each PE after some steps
abbrev pub pes_after_steps : List Step → List (Option VcpuName) → List (Option VcpuName)
pes_after_steps steps pes = fold (λ pes step. pes_after step pes) pes steps

-- law: the run of a scenario is that from the states in which its guests open
abbrev pub EagerIsFromOpening : Type 0
EagerIsFromOpening =
    (scenario : Scenario) → eager scenario
    ≡ eager_from scenario.lrs (opening_pes scenario.pes (shapes_of scenario.guests)) scenario.steps (map opening scenario.guests) (map opening scenario.guests)

-- a run in two parts: the answers of the first, and then the run of the second from where the first has come
abbrev pub in_parts : ℕ → List (Option VcpuName) → List Step → List Step → List IdealGuest → List IdealGuest → RunOut
in_parts lrs pes first rest opened states =
    let later = eager_from lrs (pes_after_steps first pes) rest opened (after_steps first states) in
    record { answers = answers_of lrs pes first states ++ later.answers; ends = later.ends }

-- law: a run that is broken off after some steps and goes on from the states that were reached is the whole run
abbrev pub RunsSplit : Type 0
RunsSplit =
    (lrs : ℕ) (pes : List (Option VcpuName)) (first rest : List Step) (opened states : List IdealGuest) → eager_from lrs pes (first ++ rest) opened states ≡ in_parts lrs pes first rest opened states
