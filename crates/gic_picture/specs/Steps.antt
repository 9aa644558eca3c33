-- Steps of the ideal controller, one after the other.
use Rattle.std.specs.Prelude.{ℕ, ◌&&◌, Bool, true, List, slice_get, nat_lt, Option, Some, None, option_and_then}
use Rattle.ideal_guest.specs.Words.{GuestShape}
use Rattle.ideal_guest.specs.Calls.{passes, is_good_op, is_good_event, Value, Regs}
use Rattle.ideal_guest.specs.Call.{op_answer}
use Rattle.ideal_guest.specs.GicGuest.declared.outcome.Answer.{Answer}
use Rattle.ideal_guest.specs.GicGuest.declared.outcome.Answer.TheVariants.{Nothing}
use Rattle.ideal_guest.specs.declared.guest.IdealGuest.{IdealGuest}
use Rattle.scn_base.specs.declared.step.Step.{Step}
use Rattle.scn_base.specs.declared.step.Step.TheVariants.{Vcpu, Device, Pe}

-- who acts in the step is there, and what it does can be done
abbrev pub can_act : List GuestShape → Step → Bool
can_act shapes (Vcpu guest vcpu op) = passes (λ shape. nat_lt vcpu shape.vcpus && is_good_op shape op) (slice_get shapes guest)
can_act shapes (Device guest device op) = passes (λ shape. is_good_event shape op) (slice_get shapes guest)
can_act shapes (Pe pe op) = true

-- the value of an answer that has one
abbrev pub value_of : Answer → Option ℕ
value_of Nothing = None
value_of (Value value) = Some value
value_of (Regs values) = None

-- the value that a step reads, in this state of the guests
abbrev pub step_value : Step → List IdealGuest → Option ℕ
step_value (Vcpu guest vcpu op) guests = option_and_then (λ state. value_of (op_answer op state vcpu)) (slice_get guests guest)
step_value (Device guest device op) guests = None
step_value (Pe pe op) guests = None
