-- What the commands of an ITS do, one after the other (IHI 0069, "The ITS command queue" and "ITS commands").
use Rattle.std.specs.Prelude.{ℕ, ◌+◌, ◌*◌, ◌^◌, ◌==◌, ◌&&◌, not, List, [], ◌∷◌, ◌++◌, map, filter, Bool, true, false, is_none, if◌then◌else◌, Option, Some, None, Result, Ok, Err}
use Rattle.std.specs.Option.{option_map_or}
use Rattle.std.specs.List.{filter_map}
use Rattle.floor_registers.specs.Words.{has_bit, field_at, GuestShape, Lpi, ClearPending, is_number}
use Rattle.floor_registers.specs.Registers.{queue_bytes, config_address, is_enabled, priority_of, advanced, Command, Movi, Int, Clear, Sync, Mapd, Mapc, Mapti, Mapi, Inv, Invall, Movall, Discard, BadCommand, Maps, id_of, target_of, collection_of, fault_number, maps_after}
use Rattle.floor_registers.specs.ItsCmd.Command.{decoded}
use Rattle.gic_open.specs.declared.plain.PlainWord.TheVariants.{Propbaser, Cbaser, Cwriter}
use Rattle.gic_call.specs.declared.command.Part.{Part}
use Rattle.gic_call.specs.declared.command.Part.TheVariants.{Forget, Map, Retarget, Raise, Clear as ClearLpi, Configure}
use Rattle.gic_call.specs.declared.event.Event.{Event}
use Rattle.gic_call.specs.declared.event.Event.TheVariants.{Raise as RaiseEvent, Touch, Queue}
use Rattle.gic_call.specs.declared.event.QueueChange.TheVariants.{Done, Stalls}
use Rattle.gic_call.specs.declared.touch.Touching.TheVariants.{Register, MapLpi, Retarget as RetargetLpi, Configure as ConfigureLpi, Forget as ForgetLpi}
use Rattle.gic_call.specs.View.{View, memory_at, is_its_enabled}
use Rattle.gic_call.specs.Access.{lpis_of}

-- The parts of a command.

-- the LPIs of a device's events, in rising EventID
abbrev pub lpis_of_device : Maps → ℕ → List ℕ
lpis_of_device maps device = filter_map (λ pair. if pair.0.0 == device then Some pair.1.0 else None) maps.events

-- the LPIs of a collection, in rising INTID
abbrev pub lpis_of_collection : GuestShape → Maps → ℕ → List ℕ
lpis_of_collection shape maps icid = filter (λ id. is_number icid (collection_of maps id)) (lpis_of shape)

-- the LPIs that are for a vCPU, in rising INTID, where `targets` are those that the LPIs have
abbrev pub lpis_for : GuestShape → (ℕ → Option ℕ) → ℕ → List ℕ
lpis_for shape targets vcpu = filter (λ id. is_number vcpu (targets id)) (lpis_of shape)

-- a part for each of some LPIs
abbrev pub each : List ℕ → (ℕ → Part) → List Part
each ids part = map part ids

-- a part for an LPI, if there is one
abbrev pub for_one : Option ℕ → (ℕ → Part) → List Part
for_one id part = option_map_or (λ id. part id ∷ []) id []

-- an event is mapped to an LPI: what it was mapped to is forgotten first, also where it is the same LPI
abbrev pub mapping_parts : Maps → ℕ × ℕ → ℕ → ℕ → List Part
mapping_parts maps event id icid = for_one (id_of maps event) Forget ++ for_one (target_of maps icid) (Map id)

-- the parts of a command without a fault, in order
abbrev pub parts : GuestShape → Maps → (ℕ → Option ℕ) → Command → List Part
parts shape maps targets (Mapd device size itt_addr valid) = each (lpis_of_device maps device) Forget
parts shape maps targets (Mapc icid rdbase true) = each (lpis_of_collection shape maps icid) (λ id. Retarget id (Some rdbase))
parts shape maps targets (Mapc icid rdbase false) = if is_none (target_of maps icid) then [] else each (lpis_of_collection shape maps icid) (λ id. Retarget id None)
parts shape maps targets (Mapti device event id icid) = mapping_parts maps (device, event) id icid
parts shape maps targets (Mapi device event icid) = mapping_parts maps (device, event) event icid
parts shape maps targets (Movi device event icid) = for_one (id_of maps (device, event)) (λ id. Retarget id (target_of maps icid))
parts shape maps targets (Int device event) = for_one (id_of maps (device, event)) Raise
parts shape maps targets (Clear device event) = for_one (id_of maps (device, event)) ClearLpi
parts shape maps targets (Discard device event) = for_one (id_of maps (device, event)) Forget
parts shape maps targets (Inv device event) = for_one (id_of maps (device, event)) Configure
parts shape maps targets (Invall icid) = each (lpis_of_collection shape maps icid) Configure
parts shape maps targets (Movall rdbase second) = each (lpis_for shape targets rdbase) (λ id. Retarget id (Some second))
parts shape maps targets (Sync rdbase) = []

-- the configuration byte of an LPI that is for a vCPU: in the table of that vCPU (own choice); 0 where it is for none
abbrev pub config_byte : GuestShape → View → Option ℕ → ℕ → ℕ
config_byte shape view target id = option_map_or (λ vcpu. memory_at shape view (config_address (view.words (Propbaser vcpu)) id) 1) target 0

-- the event of a part, where the memory and GICR_PROPBASER are as in the view
abbrev pub lpi_event : GuestShape → View → (ℕ → Option ℕ) → Part → Event
lpi_event shape view targets (Forget id) = Touch (Lpi id) ForgetLpi
lpi_event shape view targets (Map id target) = let byte = config_byte shape view (Some target) id in Touch (Lpi id) (MapLpi target (is_enabled byte) (priority_of byte))
lpi_event shape view targets (Retarget id target) = Touch (Lpi id) (RetargetLpi target)
lpi_event shape view targets (Raise id) = RaiseEvent (Lpi id)
lpi_event shape view targets (ClearLpi id) = Touch (Lpi id) (Register ClearPending 1)
lpi_event shape view targets (Configure id) = let byte = config_byte shape view (targets id) id in Touch (Lpi id) (ConfigureLpi (is_enabled byte) (priority_of byte))

-- The queue.

-- Valid, bit 63 of GITS_CBASER: there is a queue
abbrev pub is_queue_valid : ℕ → Bool
is_queue_valid cbaser = has_bit cbaser 63

-- the address of the queue: bits [51:12] of GITS_CBASER
abbrev pub queue_address : ℕ → ℕ
queue_address cbaser = field_at cbaser 12 40 * 2 ^ 12

-- the places of a queue: each has the bytes of a command
abbrev pub queue_places : ℕ → ℕ
queue_places cbaser = 128 * (field_at cbaser 0 8 + 1)

-- a further command is taken: the ITS is enabled, there is a queue, it is not stalled, and GITS_CWRITER is further
abbrev pub takes_command : View → Bool
takes_command view = is_its_enabled view && is_queue_valid (view.words Cbaser) && not view.is_stalled && not (view.offset == view.words Cwriter)

-- where the doublewords of the next command are in memory
abbrev pub word_address : View → ℕ → ℕ
word_address view number = queue_address (view.words Cbaser) + view.offset + 8 * number

-- the four doublewords of the next command
abbrev pub command_words : GuestShape → View → List ℕ
command_words shape view = map (λ number. memory_at shape view (word_address view number) 8) (0 ∷ 1 ∷ 2 ∷ 3 ∷ [])

-- the offset after the next command
abbrev pub next_offset : View → ℕ
next_offset view = advanced view.offset (queue_bytes (view.words Cbaser))

-- the parts of what was decoded
abbrev pub decoded_parts : GuestShape → View → Result Command BadCommand → List Part
decoded_parts shape view (Ok command) = parts shape view.maps view.targets command
decoded_parts shape view (Err bad) = []

-- what the next command does before the queue moves on: nothing where it has a fault
abbrev pub command_parts : GuestShape → View → List Part
command_parts shape view =
    let command = decoded (command_words shape view) in
    if is_none (fault_number shape view.maps command) then decoded_parts shape view command else []

-- how the queue goes on after the next command: it stalls where that has a fault
abbrev pub queue_event : GuestShape → View → Event
queue_event shape view =
    let words = command_words shape view in
    option_map_or (λ fault. Queue view.offset (Stalls fault)) (fault_number shape view.maps (decoded words)) (Queue (next_offset view) (Done words))

-- the events of the next command
abbrev pub command_events : GuestShape → View → List Event
command_events shape view = map (lpi_event shape view view.targets) (command_parts shape view) ++ queue_event shape view ∷ []

-- the maps after what was decoded is done
abbrev pub maps_by : Maps → Result Command BadCommand → Maps
maps_by maps (Ok command) = maps_after maps command
maps_by maps (Err bad) = maps

-- the maps after the command of these doublewords is done
abbrev pub maps_done : Maps → List ℕ → Maps
maps_done maps words = maps_by maps (decoded words)
