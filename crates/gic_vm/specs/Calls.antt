-- What the calls of a machine make of its guest, and what they answer: each is a step of the ideal controller, or is refused.
use Rattle.std.specs.Prelude.{ℕ, Bool, nat_lt, if◌then◌else◌, Option, Some, None, unwrap_or, option_and_then, Result, Ok, Err}
use Rattle.std.specs.Option.{option_map_or}
use Rattle.std.specs.Bool.{beq}
use Rattle.ideal_guest.specs.Words.{Key, key_of, GuestOp, Icc, DeviceOp, Wire, IccReg}
use Rattle.ideal_guest.specs.Calls.{Value, is_good_event, has_wire, is_usable}
use Rattle.ideal_guest.specs.GicGuest.declared.outcome.Answer.{Answer}
use Rattle.ideal_guest.specs.declared.guest.IdealGuest.{IdealGuest}
use Rattle.ideal_guest.specs.Ideal.{irq_at}
use Rattle.ideal_guest.specs.Call.{after_op, op_answer, after_device}
use Rattle.gic_vm.specs.declared.done.Done.{Done}
use Rattle.gic_vm.specs.declared.done.NotDone.{NotDone}
use Rattle.gic_vm.specs.declared.done.NotDone.TheVariants.{NoRegister, Undefined}
use Rattle.gic_vm.specs.declared.done.Refused.{Refused}
use Rattle.gic_vm.specs.declared.done.Refused.TheVariants.{NotThere}
use Rattle.gic_vm.specs.declared.encoding.Encoding.{Encoding}
use Rattle.gic_vm.specs.Encoding.{register_at}
use Rattle.gic_vm.specs.Lines.{changed_between}
use Rattle.gic_vm.specs.State.{MachineState, with_guest}

-- what a call answers that reads this value and makes of the one state of the guest the other
abbrev pub done_by : ℕ → IdealGuest → IdealGuest → Done
done_by value before after = record { value = value; changed = changed_between before after }

-- the value in an answer; 0 where nothing is read
abbrev pub value_in : Answer → ℕ
value_in (Value value) = value
value_in answer = 0

-- Devices.

-- the guest after what a device does, if it can
abbrev pub received : DeviceOp → IdealGuest → Option IdealGuest
received op guest = if is_good_event guest.shape op then Some (after_device op guest) else None

-- the guest after the wire of an interrupt has this level: the level that it has is nothing
abbrev pub levelled : Key → Bool → IdealGuest → IdealGuest
levelled key up guest = if beq (irq_at guest key).line up then guest else after_device (Wire key up) guest

-- the same of the interrupt with this INTID, at this vCPU where it is a private one, if there is one and it has a wire
abbrev pub wired : ℕ → ℕ → Bool → IdealGuest → Option IdealGuest
wired intid vcpu up guest = option_and_then (λ key. if has_wire key then Some (levelled key up guest) else None) (key_of intid vcpu guest.shape)

-- what a call answers that makes this of a guest, or is refused
abbrev pub told : Option IdealGuest → IdealGuest → Result Done Refused
told after guest = option_map_or (λ after. Ok (done_by 0 guest after)) after (Err NotThere)

-- the machine after such a call: as it was where the call is refused
abbrev pub left_by : Option IdealGuest → MachineState → MachineState
left_by after machine = with_guest machine (unwrap_or after machine.guest)

-- Accesses of the CPU interface.

-- what a call answers in which a vCPU does an operation
abbrev pub done_in : GuestOp → IdealGuest → ℕ → Done
done_in op guest vcpu = done_by (value_in (op_answer op guest vcpu)) guest (after_op op guest vcpu)

-- the operation that an access of a register is: it is undefined where the register has no such access
abbrev pub register_op : IdealGuest → ℕ → IccReg → Option ℕ → Result GuestOp NotDone
register_op guest vcpu reg write =
    if nat_lt vcpu guest.shape.vcpus then (if is_usable reg write then Ok (Icc reg write) else Err Undefined) else Err NoRegister

-- the same by the encoding of a register
abbrev pub encoded_op : IdealGuest → ℕ → Encoding → Option ℕ → Result GuestOp NotDone
encoded_op guest vcpu encoding write = option_map_or (λ reg. register_op guest vcpu reg write) (register_at encoding) (Err NoRegister)

-- what such an access answers
abbrev pub sysreg_answer : Result GuestOp NotDone → IdealGuest → ℕ → Result Done NotDone
sysreg_answer (Ok op) guest vcpu = Ok (done_in op guest vcpu)
sysreg_answer (Err refusal) guest vcpu = Err refusal

-- the machine after it
abbrev pub after_sysreg : Result GuestOp NotDone → MachineState → ℕ → MachineState
after_sysreg (Ok op) machine vcpu = with_guest machine (after_op op machine.guest vcpu)
after_sysreg (Err refusal) machine vcpu = machine
