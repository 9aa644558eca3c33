-- What the events of steps do to one interrupt.
use Rattle.std.specs.Prelude.{ℕ, ◌==◌, ◌&&◌, ◌||◌, ◌++◌, zero, suc, Bool, true, false, not, List, [], ◌∷◌, is_some, if◌then◌else◌}
use Rattle.std.specs.Option.{option_map_or}
use Rattle.ideal_guest.specs.Words.{Key, SetPending, ClearPending, ClearActive, GuestOp, Icc, Mem, is_same_key, Irq, is_number}
use Rattle.ideal_guest.specs.Registers.{taken_by, deactivated_by}
use Rattle.ideal_guest.specs.Calls.{Cbaser, Event, Up, Touch, Cpu, Touching, Register, takes_command, command_events, queue_places, icc_events, access_events, device_events}
use Rattle.scn_base.specs.declared.step.Step.{Step}
use Rattle.scn_base.specs.declared.step.Step.TheVariants.{Vcpu, Device, Pe}
use Rattle.ideal_guest.specs.GicCall.declared.event.Event.TheVariants.{Raise}
use Rattle.ideal_guest.specs.GicCall.declared.touch.Touching.TheVariants.{Forget}
use Rattle.ideal_guest.specs.GicCall.Call.{starts_commands}
use Rattle.ideal_guest.specs.declared.guest.IdealGuest.{IdealGuest}
use Rattle.ideal_guest.specs.Ideal.{irq_at, is_named, cpu_at, word_at, candidates, view_of, after_event, after_events, after_command}

-- The events of a step.

-- the events of the commands that are taken, of at most so many
abbrev pub queued_events : ℕ → IdealGuest → List Event
queued_events zero guest = []
queued_events (suc most) guest = if takes_command (view_of guest) then command_events guest.shape (view_of guest) ++ queued_events most (after_command guest) else []

-- the events of an operation of a vCPU, with those of the commands that it starts
abbrev pub op_events : GuestOp → IdealGuest → ℕ → List Event
op_events (Icc reg write) guest vcpu = icc_events guest.shape vcpu reg write
op_events (Mem frame offset size write) guest vcpu =
    let view = view_of guest in
    let events = access_events guest.shape view frame offset size write in
    let changed = after_events events guest in
    events ++ (if starts_commands guest.shape view frame offset size write then queued_events (queue_places (word_at changed Cbaser)) changed else [])

-- the events of a step in the guest of a number
abbrev pub step_events : ℕ → Step → IdealGuest → List Event
step_events n (Vcpu guest vcpu op) state = if guest == n then op_events op state vcpu else []
step_events n (Device guest device op) state = if guest == n then device_events (view_of state) op else []
step_events n (Pe pe op) state = []

-- the events of some steps, one after the other
abbrev pub steps_events : ℕ → List Step → IdealGuest → List Event
steps_events n [] state = []
steps_events n (step ∷ steps) state = let events = step_events n step state in events ++ steps_events n steps (after_events events state)

-- What an event does to an interrupt.

-- it acknowledges the interrupt
abbrev pub acknowledges : Event → IdealGuest → Key → Bool
acknowledges (Cpu vcpu reg write) state key = option_map_or (λ found. is_named found.id vcpu state.shape key) (taken_by reg write (cpu_at state vcpu) (candidates state vcpu)) false
acknowledges event state key = false

-- a touch ends the active state: a write of 1 to ICACTIVER
abbrev pub ends_active : Touching → Bool
ends_active (Register ClearActive value) = value == 1
ends_active touch = false

-- it deactivates the interrupt, which was active: an end of interrupt or a deactivation by the vCPU that has it active, or ICACTIVER
abbrev pub deactivates : Event → IdealGuest → Key → Bool
deactivates (Cpu vcpu reg write) state key = option_map_or (λ id. is_named id vcpu state.shape key) (deactivated_by reg write (cpu_at state vcpu)) false && is_number vcpu (irq_at state key).act_by
deactivates (Touch j touch) state key = is_same_key key j && ends_active touch && is_some (irq_at state key).act_by
deactivates event state key = false

-- a touch gives a cause: a write of 1 to ISPENDR
abbrev pub pends : Touching → Bool
pends (Register SetPending value) = value == 1
pends touch = false

-- it gives the interrupt a latched cause: a message, an SGI, an INT command or an MSI, a wire that rises, a write of 1 to ISPENDR, or the pending table
abbrev pub causes : Event → IdealGuest → Key → Bool
causes (Raise j) state key = is_same_key key j
causes (Up j) state key = is_same_key key j
causes (Touch j touch) state key = is_same_key key j && pends touch
causes event state key = false

-- a touch takes the latched causes away: a write of 1 to ICPENDR, or the loss of the event of an LPI
abbrev pub clears : Touching → Bool
clears (Register ClearPending value) = value == 1
clears Forget = true
clears touch = false

-- it takes the interrupt's latched causes away: an acknowledge, a write of 1 to ICPENDR, a message to CLRSPI_NSR, a CLEAR command, or what unmaps or
-- maps anew the event of an LPI
abbrev pub consumes : Event → IdealGuest → Key → Bool
consumes (Touch j touch) state key = is_same_key key j && clears touch
consumes event state key = acknowledges event state key

-- one of some events, done one after the other, does a deed
abbrev pub one_does : (Event → IdealGuest → Key → Bool) → List Event → IdealGuest → Key → Bool
one_does deed [] state key = false
one_does deed (event ∷ events) state key = deed event state key || one_does deed events (after_event state event) key

-- a latched cause: the wire rose, or it was pended
abbrev pub is_latched : Irq → Bool
is_latched irq = irq.rise || irq.soft

-- whether there is a latched cause after some events: one came since the last event that took it away, or it was there and no event did
abbrev pub is_caused_since : Bool → List Event → IdealGuest → Key → Bool
is_caused_since at_first [] state key = at_first
is_caused_since at_first (event ∷ events) state key =
    is_caused_since (causes event state key || (at_first && not (consumes event state key))) events (after_event state event) key
