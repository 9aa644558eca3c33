-- What a good command makes of the maps, and what the maps of a guest always have (IHI 0069, "ITS commands").
use Rattle.std.specs.Prelude.{ℕ, ◌≡◌, ◌<◌, ◌≤◌, ◌+◌, ◌^◌, ◌==◌, not, IsTrue, IfSome, Option, Some, None, true, false, filter}
use Rattle.its_cmd.specs.Words.{GuestShape, Lpi, has_interrupt}
use Rattle.its_cmd.specs.declared.command.Command.{Command}
use Rattle.its_cmd.specs.declared.command.Command.TheVariants.{Movi, Mapd, Mapc, Mapti, Mapi, Discard}
use Rattle.its_tab.specs.Maps.{Maps, bits_of, pair_of, target_of, with_device, with_event, with_collection, without_device, without_event, without_collection, IsSound}
use Rattle.its_tab.specs.Fault.{fault_of}

-- the maps without any event of a device
abbrev pub without_events : Maps → ℕ → Maps
without_events maps device = record maps { events = filter (λ pair. not (pair.0.0 == device)) maps.events }

-- the maps with another collection for an event that has this pair
abbrev pub recollected : Maps → ℕ × ℕ → ℕ → Option (ℕ × ℕ) → Maps
recollected maps event icid (Some pair) = with_event maps event (pair.0, icid)
recollected maps event icid None = maps

-- the maps after a command without a fault: MAPD first unmaps all events of the device; MAPI maps the INTID of the event's number; MOVI keeps the INTID
abbrev pub maps_after : Maps → Command → Maps
maps_after maps (Mapd device size itt_addr true) = with_device (without_events maps device) device (size + 1)
maps_after maps (Mapd device size itt_addr false) = without_device (without_events maps device) device
maps_after maps (Mapc icid rdbase true) = with_collection maps icid rdbase
maps_after maps (Mapc icid rdbase false) = without_collection maps icid
maps_after maps (Mapti device event id icid) = with_event maps (device, event) (id, icid)
maps_after maps (Mapi device event icid) = with_event maps (device, event) (event, icid)
maps_after maps (Movi device event icid) = recollected maps (device, event) icid (pair_of maps (device, event))
maps_after maps (Discard device event) = without_event maps (device, event)
maps_after maps command = maps

-- maps that the commands of a guest can make: DeviceIDs and EventIDs are in range, INTIDs are LPIs of the guest, and collections have a vCPU of the guest
pub record IsValid (shape : GuestShape) (maps : Maps) : Type 0 where
  pub sound : IsSound maps
  pub device : (device bits : ℕ) → bits_of maps device ≡ Some bits → device < 65536
  pub bits : (device bits : ℕ) → bits_of maps device ≡ Some bits → (1 ≤ bits) × (bits ≤ 15 + 1)
  pub event : (event pair : ℕ × ℕ) → pair_of maps event ≡ Some pair → IfSome (bits_of maps event.0) (λ bits. event.1 < 2 ^ bits)
  pub interrupt : (event pair : ℕ × ℕ) → pair_of maps event ≡ Some pair → IsTrue (has_interrupt shape (Lpi pair.0))
  pub target : (icid vcpu : ℕ) → target_of maps icid ≡ Some vcpu → vcpu < shape.vcpus

-- a command without a fault keeps the maps valid
abbrev pub GoodCommandsKeepMaps : Type 0
GoodCommandsKeepMaps = (shape : GuestShape) (maps : Maps) (command : Command) → IsValid shape maps → fault_of shape maps command ≡ None → IsValid shape (maps_after maps command)
