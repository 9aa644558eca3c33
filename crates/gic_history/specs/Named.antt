-- Which interrupts a call names: those that its events are of.
use Rattle.std.specs.Prelude.{ℕ, Bool, false, List, [], Option, Some, None}
use Rattle.std.specs.List.{list_any}
use Rattle.std.specs.Option.{option_map_or}
use Rattle.ideal_guest.specs.Words.{Key, Frame, Redist, Its, Icc, Mem, GuestShape, is_same_key}
use Rattle.ideal_guest.specs.Calls.{Event, Up, Down, Touch, Operation, Access, Device, Residence, access_events, device_events, icc_events, command_events, View}
use Rattle.ideal_guest.specs.GicCall.declared.event.Event.TheVariants.{Raise}

-- the interrupt that an event changes or reads, if it is one of a call
abbrev pub key_in : Event → Option Key
key_in (Raise key) = Some key
key_in (Up key) = Some key
key_in (Down key) = Some key
key_in (Touch key touching) = Some key
key_in event = None

-- a guest as a call of EnableLPIs of a vCPU names its LPIs: all those with a bit in the pending table, whatever vCPU they are for
abbrev pub before_enabling : ℕ → View → View
before_enabling vcpu view = record view { targets = λ id. Some vcpu; lpis = λ other. false }

-- the events of a memory-mapped access: of a write that starts commands, those of the next one
abbrev pub named_by_access : GuestShape → View → Frame → ℕ → ℕ → Option ℕ → List Event
named_by_access shape view (Redist vcpu) offset size write = access_events shape (before_enabling vcpu view) (Redist vcpu) offset size write
named_by_access shape view Its offset size (Some value) = command_events shape view
named_by_access shape view frame offset size write = access_events shape view frame offset size write

-- the events of an actor's call, where the guest is as in the view
abbrev pub named_by : GuestShape → View → ℕ → Operation → List Event
named_by shape view actor (Access (Icc reg write)) = icc_events shape actor reg write
named_by shape view actor (Access (Mem frame offset size write)) = named_by_access shape view frame offset size write
named_by shape view actor (Device op) = device_events view op
named_by shape view actor Residence = []

-- the call names the interrupt
abbrev pub names : GuestShape → View → ℕ → Operation → Key → Bool
names shape view actor operation key = list_any (λ event. option_map_or (is_same_key key) (key_in event) false) (named_by shape view actor operation)
