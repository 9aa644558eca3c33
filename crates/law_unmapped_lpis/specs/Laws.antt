-- Laws of the LPIs that the maps of an ITS give no vCPU, under the eager controller.
use Rattle.std.specs.Prelude.{ℕ}
use Rattle.law_lone_calls_are_eager.specs.Words.{DeviceOp, GuestOp}
use Rattle.law_lone_calls_are_eager.specs.Calls.{device_events, command_events}
use Rattle.law_lone_calls_are_eager.specs.Histories.{IdealGuest, view_of, after_events, IsSound, AreForNone}
use Rattle.law_lone_calls_are_eager.specs.GicIdeal.Deeds.{op_events}

-- they stay for none after the next command of the queue, with the event with which the queue goes on or stalls
abbrev pub CommandsLeaveNone : Type 0
CommandsLeaveNone = (guest : IdealGuest) → IsSound guest → AreForNone guest → AreForNone (after_events (command_events guest.shape (view_of guest)) guest)

-- after an operation of a vCPU, with all commands that it starts
abbrev pub AccessesLeaveNone : Type 0
AccessesLeaveNone = (guest : IdealGuest) (vcpu : ℕ) (op : GuestOp) → IsSound guest → AreForNone guest → AreForNone (after_events (op_events op guest vcpu) guest)

-- and after what a device does
abbrev pub DevicesLeaveNone : Type 0
DevicesLeaveNone = (guest : IdealGuest) (op : DeviceOp) → IsSound guest → AreForNone guest → AreForNone (after_events (device_events (view_of guest) op) guest)
