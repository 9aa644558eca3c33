-- Runs in two parts.
use Rattle.std.proofs.Common.{◌≡◌, ℕ, ◌++◌, List, [], ◌∷◌, Option, refl, ap, ◌∙◌}
use Rattle.gic_ideal.specs.ScnBase.declared.step.Step.{Step}
use Rattle.gic_ideal.specs.ScnBase.declared.pes.VcpuName.{VcpuName}
use Rattle.gic_ideal.specs.ScnBase.Standing.{pes_after}
use Rattle.gic_ideal.specs.IdealGuests.declared.guest.IdealGuest.{IdealGuest}
use Rattle.gic_ideal.specs.IdealGuests.GicGuest.declared.outcome.Answer.{Answer}
use Rattle.gic_ideal.specs.IdealGuests.Calls.{RunOut}
use Rattle.gic_ideal.specs.Eager.{step_answer, after_step, answers_of, after_steps}
use Rattle.gic_ideal.specs.Ends.{ends_of}
use Rattle.law_runs_split.specs.Split.{pes_after_steps, EagerIsFromOpening, RunsSplit}

-- the states after both parts
states_split : (first rest : List Step) (states : List IdealGuest) → after_steps (first ++ rest) states ≡ after_steps rest (after_steps first states)
states_split [] rest states = refl
states_split (step ∷ first) rest states = states_split first rest (after_step step states)

-- the answers of both parts
answers_split : (lrs : ℕ) (pes : List (Option VcpuName)) (first rest : List Step) (states : List IdealGuest)
    → answers_of lrs pes (first ++ rest) states ≡ answers_of lrs pes first states ++ answers_of lrs (pes_after_steps first pes) rest (after_steps first states)
answers_split lrs pes [] rest states = refl
answers_split lrs pes (step ∷ first) rest states = ap (λ answers. step_answer lrs pes step states ∷ answers) (answers_split lrs (pes_after step pes) first rest (after_step step states))

pub runs_split : RunsSplit
runs_split lrs pes first rest opened states =
    ap (λ (answers : List Answer). let out : RunOut = record { answers = answers; ends = ends_of opened (after_steps (first ++ rest) states) } in out) (answers_split lrs pes first rest states)
    ∙ ap
    (λ (closed : List IdealGuest).
    let out : RunOut = record { answers = answers_of lrs pes first states ++ answers_of lrs (pes_after_steps first pes) rest (after_steps first states); ends = ends_of opened closed } in out)
    (states_split first rest states)

pub eager_is_from_opening : EagerIsFromOpening
eager_is_from_opening scenario = refl
