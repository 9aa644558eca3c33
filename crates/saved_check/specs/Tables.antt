-- What the tables of an ITS have of what was saved, and when an event can be mapped into tables that do not have it (IHI 0069, "ITS commands": MAPTI).
use Rattle.std.specs.Prelude.{ℕ, ◌<◌, ◌≤◌, List, map, Bool, ◌&&◌, not, is_some, is_none}
use Rattle.saved_guest.specs.IdealGuests.Words.{GuestShape, Lpi, has_interrupt}
use Rattle.saved_guest.specs.IdealGuests.Registers.{Maps, at_number, owner_of, is_past_device}
use Rattle.saved_guest.specs.IdealGuests.Calls.{DevEnd, EvtEnd, ColEnd}

-- the entry of a device, an event and a collection, each behind its key
abbrev pub dev_entry : DevEnd → ℕ × ℕ
dev_entry dev = (dev.device, dev.bits)

abbrev pub evt_entry : EvtEnd → (ℕ × ℕ) × (ℕ × ℕ)
evt_entry evt = ((evt.device, evt.event), (evt.id, evt.icid))

abbrev pub col_entry : ColEnd → ℕ × ℕ
col_entry col = (col.icid, col.vcpu)

-- maps with these events
abbrev pub with_events : Maps → List EvtEnd → Maps
with_events maps evts = record maps { events = map evt_entry evts }

-- a DeviceID of 16 bits, with 1 to 16 EventID bits
abbrev pub IsValidDev : DevEnd → Type 0
IsValidDev dev = (dev.device < 65536) × (1 ≤ dev.bits) × (dev.bits ≤ 16)

-- a collection of a vCPU of the guest
abbrev pub IsValidCol : GuestShape → ColEnd → Type 0
IsValidCol shape col = col.vcpu < shape.vcpus

-- its device is mapped and has such an EventID, and its INTID is that of an LPI of the guest which no event has
abbrev pub can_map : GuestShape → Maps → EvtEnd → Bool
can_map shape maps evt =
    is_some (at_number maps.devices evt.device) && not (is_past_device maps evt.device evt.event) && (has_interrupt shape (Lpi evt.id) && is_none (owner_of maps evt.id))
