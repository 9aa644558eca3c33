-- Which calls an actor makes in a history, and which a scenario gives it.
use Rattle.std.specs.Prelude.{ℕ, ◌+◌, ◌==◌, ◌&&◌, List, [], ◌∷◌, Option, if◌then◌else◌}
use Rattle.std.specs.Option.{option_map_or}
use Rattle.floor_histories.specs.Words.{GuestShape}
use Rattle.floor_histories.specs.Calls.{Moment, Begin, Happens, Operation, Access, Device, Residence, Value}
use Rattle.floor_histories.specs.GicCall.declared.event.Moment.TheVariants.{End}
use Rattle.floor_histories.specs.GicGuest.declared.outcome.Answer.{Answer}
use Rattle.floor_histories.specs.GicGuest.declared.outcome.Answer.TheVariants.{Nothing}
use Rattle.gic_ideal.specs.ScnBase.declared.step.Step.{Step}
use Rattle.gic_ideal.specs.ScnBase.declared.step.Step.TheVariants.{Vcpu as VcpuStep, Device as DeviceStep, Pe}

-- an operation with what the step answers
pub record Made : Type 0 where
  pub operation : Operation
  pub answer : Answer

-- what a step answers whose call ends with this
abbrev pub answer_of : Option ℕ → Answer
answer_of read = option_map_or Value read Nothing

-- a call that ended, where it is of a step: entering, leaving and looking for a kick are not
abbrev pub made_of : Operation → Option ℕ → List Made → List Made
made_of Residence answer rest = rest
made_of operation answer rest = (record { operation = operation; answer = answer_of answer }) ∷ rest

-- the calls of an actor in a history, in order, where it began this one last
abbrev pub calls_by : ℕ → Operation → List Moment → List Made
calls_by actor current [] = []
calls_by actor current (Begin other operation ∷ moments) = if other == actor then calls_by actor operation moments else calls_by actor current moments
calls_by actor current (Happens other event found ∷ moments) = calls_by actor current moments
calls_by actor current (End other answer ∷ moments) = if other == actor then made_of current answer (calls_by actor current moments) else calls_by actor current moments

abbrev pub calls_of : ℕ → List Moment → List Made
calls_of actor moments = calls_by actor Residence moments

-- the operations that the steps of a scenario give an actor of the guest of a number, with their answers, in order
abbrev pub own_steps : GuestShape → ℕ → ℕ → List Step → List Answer → List Made
own_steps shape n actor (VcpuStep guest vcpu op ∷ steps) (answer ∷ answers) =
    if guest == n && vcpu == actor then (record { operation = Access op; answer = answer }) ∷ own_steps shape n actor steps answers else own_steps shape n actor steps answers
own_steps shape n actor (DeviceStep guest device op ∷ steps) (answer ∷ answers) =
    if guest == n && shape.vcpus + device == actor then (record { operation = Device op; answer = answer }) ∷ own_steps shape n actor steps answers
    else own_steps shape n actor steps answers
own_steps shape n actor (Pe pe op ∷ steps) (answer ∷ answers) = own_steps shape n actor steps answers
own_steps shape n actor steps answers = []
