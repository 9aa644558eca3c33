-- The calls of a guest's actors that the steps of a schedule make (own choice).
use Rattle.std.specs.Prelude.{ℕ, ◌+◌, ◌==◌, not, Bool, true, false, if◌then◌else◌, List, map, filter, Option, Some, None}
use Rattle.law_ends_agree.specs.Words.{GuestShape}
use Rattle.law_ends_agree.specs.Calls.{Operation, Access, Device as DeviceCall, Residence, Value}
use Rattle.law_ends_agree.specs.GicGuest.declared.outcome.Answer.{Answer}
use Rattle.law_ends_agree.specs.ScnBase.declared.step.Step.{Step}
use Rattle.law_ends_agree.specs.ScnBase.declared.step.Step.TheVariants.{Vcpu, Device, Pe}
use Rattle.law_one_thread_is_eager.specs.LawSerialIsEager.Serial.{WholePart}

-- what an actor of a guest asked for, and the value that it read, if it read one
pub record CallMade : Type 0 where
  pub actor : ℕ
  pub operation : Operation
  pub answer : Option ℕ

-- a part in which a vCPU enters a PE, leaves one, or looks for a kick
abbrev pub is_residence : Operation → Bool
is_residence Residence = true
is_residence operation = false

-- the calls among some parts: those of all others
abbrev pub call_made : WholePart → CallMade
call_made part = record { actor = part.actor; operation = part.operation; answer = part.answer }

abbrev pub calls_among : List WholePart → List CallMade
calls_among parts = map call_made (filter (λ part. not (is_residence part.operation)) parts)

-- the value that a step read, if it read one
abbrev pub value_of : Answer → Option ℕ
value_of (Value value) = Some value
value_of answer = None

-- the call that a step makes of a guest with this number and shape, if it makes one
abbrev pub step_call : ℕ → GuestShape → Step → Answer → Option CallMade
step_call number shape (Vcpu guest vcpu op) answer = if guest == number then Some (record { actor = vcpu; operation = Access op; answer = value_of answer }) else None
step_call number shape (Device guest device op) answer = if guest == number then Some (record { actor = shape.vcpus + device; operation = DeviceCall op; answer = None }) else None
step_call number shape (Pe pe op) answer = None
