-- The steps of the eager controller as moments of a history: an interrupt gets to an interface just before each access that uses it, and leaves just after
-- (own choice).
use Rattle.std.specs.Prelude.{ℕ, ◌+◌, ◌==◌, zero, suc, Bool, true, false, List, [], ◌∷◌, ◌++◌, map, replicate, Option, Some, None, option_and_then, if◌then◌else◌}
use Rattle.std.specs.List.{flat_map}
use Rattle.floor_histories.specs.Words.{IccReg, Key, DeviceOp, Msi, Frame, Its, GuestOp, Icc, Mem, GuestShape, key_of, is_number}
use Rattle.floor_histories.specs.GicImap.Map.{decoded as its_decoded}
use Rattle.floor_histories.specs.Calls.{Cbaser, Event, Cpu, Reach, Leave, ItsBegin, Moment, Begin, Happens, Operation, Access, Device, Place, Part, icc_raises, takes_turn, access_events, access_value, device_events, lpi_event, command_parts, queue_event, takes_command, queue_places, Happened, read_answer, access_places, device_places, byte_places, command_places, View, Enable, enabled_by, pended_events, msi_raises}
use Rattle.floor_histories.specs.Registers.{first_of}
use Rattle.floor_histories.specs.GicCall.declared.event.Event.TheVariants.{Read, ItsEnd}
use Rattle.floor_histories.specs.GicCall.declared.event.Moment.TheVariants.{End}
use Rattle.floor_histories.specs.GicCall.Call.{starts_commands}
use Rattle.floor_histories.specs.Histories.{IdealGuest, irq_at, word_at, candidates, access_answer, view_of, after_events, after_command, Ideal, handed_out, happened, asks_first, ended_by}
use Rattle.gic_ideal.specs.Deeds.{step_events}
use Rattle.gic_ideal.specs.ScnBase.declared.step.Step.{Step}
use Rattle.gic_ideal.specs.ScnBase.declared.step.Step.TheVariants.{Vcpu as VcpuStep, Device as DeviceStep, Pe}

-- Which interrupt an access of the CPU interface uses.

-- the first of all that are deliverable to the vCPU
abbrev pub first_key : IdealGuest → ℕ → Option Key
first_key guest vcpu = option_and_then (λ first. key_of first.id vcpu guest.shape) (first_of (candidates guest vcpu))

-- the interrupt that the access names, if it is active by the vCPU
abbrev pub active_key : IdealGuest → ℕ → IccReg → Option ℕ → Option Key
active_key guest vcpu reg write = option_and_then (λ key. if is_number vcpu (irq_at guest key).act_by then Some key else None) (ended_by guest.shape vcpu reg write)

-- a read of IAR or HPPIR uses the first interrupt, if there is one, whatever it answers; a write of EOIR or DIR one that it names and that is active by the vCPU
abbrev pub used_by : IdealGuest → ℕ → IccReg → Option ℕ → Option Key
used_by guest vcpu reg write = if asks_first reg write then first_key guest vcpu else active_key guest vcpu reg write

-- The events of a call, with its reads and moves.

-- an access between the moves of the interrupt that it uses
abbrev pub between_moves : ℕ → Option Key → Event → List Event
between_moves vcpu None event = event ∷ []
between_moves vcpu (Some key) event = Reach key vcpu ∷ event ∷ Leave key vcpu ∷ []

abbrev pub reads : List Place → List Event
reads places = map Read places

-- a part of a command: what it reads, and its event
abbrev pub part_made : GuestShape → View → Part → List Event
part_made shape view part = reads (byte_places shape view view.targets part) ++ lpi_event shape view view.targets part ∷ []

-- the next command of the queue: its doublewords are read, its parts made, and the queue goes on
abbrev pub command_made : GuestShape → View → List Event
command_made shape view = reads (command_places shape view) ++ flat_map (part_made shape view) (command_parts shape view) ++ queue_event shape view ∷ []

-- the commands that are taken, of at most so many
abbrev pub commands_made : ℕ → IdealGuest → List Event
commands_made zero guest = []
commands_made (suc most) guest =
    if takes_command (view_of guest) then command_made guest.shape (view_of guest) ++ commands_made most (after_command guest) else []

-- the commands that an access starts
abbrev pub started_by : Bool → IdealGuest → List Event
started_by true guest = commands_made (queue_places (word_at guest Cbaser)) guest
started_by false guest = []

-- an access takes the ITS
abbrev pub takes_its : GuestShape → Frame → ℕ → ℕ → Option ℕ → Bool
takes_its shape Its offset size write = takes_turn shape (its_decoded offset size) write
takes_its shape frame offset size write = false

-- the events of an access that does not take the ITS: it reads first, or after it set EnableLPIs of a vCPU
abbrev pub out_of_turn : Option ℕ → GuestShape → View → List Place → List Event → List Event
out_of_turn None shape view places events = reads places ++ events
out_of_turn (Some vcpu) shape view places events = Enable vcpu ∷ reads places ++ pended_events shape view vcpu

-- an operation of a vCPU: what an access of memory reads it reads at once, since nobody acts meanwhile; one that takes the ITS does so first
abbrev pub op_made : GuestOp → IdealGuest → ℕ → List Event
op_made (Icc reg write) guest vcpu = between_moves vcpu (used_by guest vcpu reg write) (Cpu vcpu reg write) ++ icc_raises guest.shape vcpu reg write
op_made (Mem frame offset size write) guest vcpu =
    let view = view_of guest in
    let events = access_events guest.shape view frame offset size write in
    let places = access_places guest.shape view frame offset size write in
    if takes_its guest.shape frame offset size write
    then ItsBegin ∷ reads places ++ (events ++ started_by (starts_commands guest.shape view frame offset size write) (after_events events guest) ++ ItsEnd ∷ [])
    else out_of_turn (enabled_by guest.shape frame offset size write) guest.shape view places events

-- what it answers
abbrev pub op_read : GuestOp → IdealGuest → ℕ → Option ℕ
op_read (Icc reg write) guest vcpu = access_answer reg write guest vcpu
op_read (Mem frame offset size write) guest vcpu = read_answer write (access_value guest.shape (view_of guest) frame offset size)

-- what a device does
abbrev pub device_made : DeviceOp → IdealGuest → List Event
device_made (Msi device event) guest = ItsBegin ∷ reads (device_places (Msi device event)) ++ (msi_raises (view_of guest) device event ++ ItsEnd ∷ [])
device_made op guest = device_events (view_of guest) op

-- Moments.

-- the guest while nothing stands at an interface and both marks are free
abbrev pub settled : IdealGuest → Ideal
settled guest = record { guest = guest; at = replicate guest.shape.vcpus []; spreads = None; has_its = None }

-- events of an actor, one after the other, each with what it hands out
abbrev pub happenings : ℕ → List Event → Ideal → List Happened
happenings actor [] state = []
happenings actor (event ∷ events) state = (record { event = event; found = handed_out state event }) ∷ happenings actor events (happened actor event state)

abbrev pub moment_of : ℕ → Happened → Moment
moment_of actor one = Happens actor one.event one.found

-- a call of an actor that makes these events from there on
abbrev pub call_moments : ℕ → Operation → List Event → Option ℕ → IdealGuest → List Moment
call_moments actor operation events answer guest = Begin actor operation ∷ map (moment_of actor) (happenings actor events (settled guest)) ++ End actor answer ∷ []

-- a step in the guest of a number
abbrev pub step_moments : ℕ → Step → IdealGuest → List Moment
step_moments n (VcpuStep guest vcpu op) state = if guest == n then call_moments vcpu (Access op) (op_made op state vcpu) (op_read op state vcpu) state else []
step_moments n (DeviceStep guest device op) state =
    if guest == n then call_moments (state.shape.vcpus + device) (Device op) (device_made op state) None state else []
step_moments n (Pe pe op) state = []

-- some steps, one after the other
abbrev pub history_of : ℕ → List Step → IdealGuest → List Moment
history_of n [] state = []
history_of n (step ∷ steps) state = step_moments n step state ++ history_of n steps (after_events (step_events n step state) state)
