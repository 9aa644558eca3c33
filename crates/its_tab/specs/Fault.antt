-- The faults of ITS commands, in the order of their numbers (own choice of the numbers; IHI 0069, "ITS command error encodings", has more).
use Rattle.std.specs.Prelude.{ℕ, ◌^◌, ◌==◌, ◌&&◌, ◌||◌, not, nat_le, nat_lt, is_none, Bool, false, Option, Some, Result, Ok, Err, List, [], ◌∷◌, find, unwrap_or}
use Rattle.std.specs.Option.{option_map, option_and_then}
use Rattle.its_cmd.specs.Words.{GuestShape, Lpi, has_interrupt}
use Rattle.its_cmd.specs.declared.command.Command.{Command}
use Rattle.its_cmd.specs.declared.command.Command.TheVariants.{Movi, Int, Clear, Sync, Mapd, Mapc, Mapti, Mapi, Inv, Invall, Movall, Discard}
use Rattle.its_cmd.specs.declared.command.BadCommand.{BadCommand}
use Rattle.its_tab.specs.declared.fault.CmdFault.{CmdFault}
use Rattle.its_tab.specs.declared.fault.CmdFault.TheVariants.{DeviceRange, SizeRange, DeviceUnmapped, EventRange, EventUnmapped, IntIdRange, CollectionUnmapped, TargetRange}
use Rattle.its_tab.specs.Maps.{Maps, bits_of, pair_of, target_of, owner_of}

-- the number of a fault
abbrev pub number_of : CmdFault → ℕ
number_of DeviceRange = 1
number_of SizeRange = 2
number_of DeviceUnmapped = 3
number_of EventRange = 4
number_of EventUnmapped = 5
number_of IntIdRange = 6
number_of CollectionUnmapped = 7
number_of TargetRange = 8

-- the first of some faults that is there
abbrev pub first_fault : List (Bool × CmdFault) → Option CmdFault
first_fault rows = option_map (λ row. row.1) (find (λ row. row.0) rows)

-- the EventID is not below 2 to the device's EventID bits
abbrev pub is_past_device : Maps → ℕ → ℕ → Bool
is_past_device maps device event = not (nat_lt event (2 ^ unwrap_or (bits_of maps device) 0))

-- another event has the INTID
abbrev pub is_of_other : Maps → ℕ → ℕ → ℕ → Bool
is_of_other maps device event id = unwrap_or (option_map (λ owner. not (owner.0 == device && owner.1 == event)) (owner_of maps id)) false

-- the INTID is no LPI of the guest, or another event has it
abbrev pub is_wrong_id : GuestShape → Maps → ℕ → ℕ → ℕ → Bool
is_wrong_id shape maps device event id = not (has_interrupt shape (Lpi id)) || is_of_other maps device event id

-- the event's collection is not mapped
abbrev pub is_uncollected : Maps → ℕ → ℕ → Bool
is_uncollected maps device event = is_none (option_and_then (λ pair. target_of maps pair.1) (pair_of maps (device, event)))

-- an RDbase is not a vCPU of the guest
abbrev pub is_no_vcpu : GuestShape → ℕ → Bool
is_no_vcpu shape rdbase = nat_le shape.vcpus rdbase

-- the faults of a command on an event of a device that has to be mapped, and further ones
abbrev pub on_device : Maps → ℕ → ℕ → List (Bool × CmdFault) → List (Bool × CmdFault)
on_device maps device event others =
    (nat_le 65536 device, DeviceRange)
    ∷ (is_none (bits_of maps device), DeviceUnmapped)
    ∷ (is_past_device maps device event, EventRange)
    ∷ others

-- the same where the event has to be mapped too
abbrev pub on_event : Maps → ℕ → ℕ → List (Bool × CmdFault) → List (Bool × CmdFault)
on_event maps device event others = on_device maps device event ((is_none (pair_of maps (device, event)), EventUnmapped) ∷ others)

-- a command that maps an event
abbrev pub on_mapping : GuestShape → Maps → ℕ → ℕ → ℕ → ℕ → List (Bool × CmdFault)
on_mapping shape maps device event id icid =
    on_device maps device event
    ((is_wrong_id shape maps device event id, IntIdRange)
    ∷ (is_none (target_of maps icid), CollectionUnmapped)
    ∷ [])

-- the faults that each command can have, by number, each with the test that it is there
abbrev pub faults : GuestShape → Maps → Command → List (Bool × CmdFault)
faults shape maps (Mapd device size itt_addr valid) = (nat_le 65536 device, DeviceRange) ∷ (valid && nat_lt 15 size, SizeRange) ∷ []
faults shape maps (Mapc icid rdbase valid) = (valid && is_no_vcpu shape rdbase, TargetRange) ∷ []
faults shape maps (Mapti device event id icid) = on_mapping shape maps device event id icid
faults shape maps (Mapi device event icid) = on_mapping shape maps device event event icid
faults shape maps (Movi device event icid) = on_event maps device event ((is_none (target_of maps icid), CollectionUnmapped) ∷ [])
faults shape maps (Int device event) = on_event maps device event ((is_uncollected maps device event, CollectionUnmapped) ∷ [])
faults shape maps (Clear device event) = on_event maps device event []
faults shape maps (Discard device event) = on_event maps device event []
faults shape maps (Inv device event) = on_event maps device event ((is_uncollected maps device event, CollectionUnmapped) ∷ [])
faults shape maps (Invall icid) = (is_none (target_of maps icid), CollectionUnmapped) ∷ []
faults shape maps (Movall rdbase second) = (is_no_vcpu shape rdbase || is_no_vcpu shape second, TargetRange) ∷ []
faults shape maps (Sync rdbase) = (is_no_vcpu shape rdbase, TargetRange) ∷ []

-- the first fault of a command, by number
abbrev pub fault_of : GuestShape → Maps → Command → Option CmdFault
fault_of shape maps command = first_fault (faults shape maps command)

-- the number of the first fault of what was decoded: 10 where it is no command
abbrev pub fault_number : GuestShape → Maps → Result Command BadCommand → Option ℕ
fault_number shape maps (Ok command) = option_map number_of (fault_of shape maps command)
fault_number shape maps (Err bad) = Some 10
