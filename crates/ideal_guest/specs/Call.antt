-- What the calls of vCPUs and devices do to one guest under the ideal controller, and what they answer.
use Rattle.std.specs.Prelude.{ℕ, if◌then◌else◌, Some, None}
use Rattle.std.specs.Option.{option_map_or}
use Rattle.floor_calls.specs.Words.{GuestOp, Icc, Mem, DeviceOp}
use Rattle.floor_calls.specs.GicGuest.declared.outcome.Answer.{Answer}
use Rattle.floor_calls.specs.Calls.{Value, icc_events, access_events, access_value, device_events}
use Rattle.floor_calls.specs.GicGuest.declared.outcome.Answer.TheVariants.{Nothing}
use Rattle.floor_calls.specs.GicCall.Call.{starts_commands}
use Rattle.ideal_guest.specs.declared.guest.IdealGuest.{IdealGuest}
use Rattle.ideal_guest.specs.Ideal.{access_answer, view_of, after_events, after_queued}

-- the guest after an operation of a vCPU: its events, and the commands that it starts
abbrev pub after_op : GuestOp → IdealGuest → ℕ → IdealGuest
after_op (Icc reg write) guest vcpu = after_events (icc_events guest.shape vcpu reg write) guest
after_op (Mem frame offset size write) guest vcpu =
    let view = view_of guest in
    let changed = after_events (access_events guest.shape view frame offset size write) guest in
    if starts_commands guest.shape view frame offset size write then after_queued changed else changed

-- what the operation answers
abbrev pub op_answer : GuestOp → IdealGuest → ℕ → Answer
op_answer (Icc reg write) guest vcpu = option_map_or Value (access_answer reg write guest vcpu) Nothing
op_answer (Mem frame offset size None) guest vcpu = Value (access_value guest.shape (view_of guest) frame offset size)
op_answer (Mem frame offset size (Some value)) guest vcpu = Nothing

-- the guest after what a device does
abbrev pub after_device : DeviceOp → IdealGuest → IdealGuest
after_device op guest = after_events (device_events (view_of guest) op) guest
