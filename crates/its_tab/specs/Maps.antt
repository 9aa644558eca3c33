-- The tables of an ITS as three finite maps (IHI 0069, "The ITS tables"), each the list of its pairs in the order of the keys.
use Rattle.std.specs.Prelude.{ℕ, ◌≡◌, ◌==◌, IsSome, Option, Some, List, find}
use Rattle.std.specs.declared.cmp.Ordering.{Ordering}
use Rattle.std.specs.Ordering.{nat_cmp, ordering_then}
use Rattle.std.specs.Option.{option_map}
use Rattle.std.specs.List.Sorted.{IsStrictlySortedBy}
use Rattle.std.specs.Map.{lookup, keys_of, remove_entry}
use Rattle.std.specs.BTreeMap.{is_at, insert_entry}

-- the maps: DeviceIDs to the number of their EventID bits, events (a DeviceID and an EventID) to an INTID and an ICID, and ICIDs to vCPUs
pub record Maps : Type 0 where
  pub devices : List (ℕ × ℕ)
  pub events : List ((ℕ × ℕ) × (ℕ × ℕ))
  pub collections : List (ℕ × ℕ)

-- the order of events: by DeviceID, then by EventID
abbrev pub event_cmp : ℕ × ℕ → ℕ × ℕ → Ordering
event_cmp x y = ordering_then (nat_cmp x.0 y.0) (nat_cmp x.1 y.1)

-- the value at a number
abbrev pub at_number : List (ℕ × ℕ) → ℕ → Option ℕ
at_number pairs number = lookup (is_at (nat_cmp number)) pairs

-- the EventID bits of a device that is mapped
abbrev pub bits_of : Maps → ℕ → Option ℕ
bits_of maps device = at_number maps.devices device

-- the INTID and the ICID of an event that is mapped
abbrev pub pair_of : Maps → ℕ × ℕ → Option (ℕ × ℕ)
pair_of maps event = lookup (is_at (event_cmp event)) maps.events

-- the INTID of an event that is mapped
abbrev pub id_of : Maps → ℕ × ℕ → Option ℕ
id_of maps event = option_map (λ pair. pair.0) (pair_of maps event)

-- the vCPU of a collection that is mapped
abbrev pub target_of : Maps → ℕ → Option ℕ
target_of maps icid = at_number maps.collections icid

-- the first event, by device and number, that has an INTID
abbrev pub owner_of : Maps → ℕ → Option (ℕ × ℕ)
owner_of maps id = option_map (λ pair. pair.0) (find (λ pair. pair.1.0 == id) maps.events)

-- the first event of a device
abbrev pub first_event : Maps → ℕ → Option ℕ
first_event maps device = option_map (λ pair. pair.0.1) (find (λ pair. pair.0.0 == device) maps.events)

-- the maps with a device, an event or a collection mapped; an older value at the key is replaced
abbrev pub with_device : Maps → ℕ → ℕ → Maps
with_device maps device bits = record maps { devices = insert_entry nat_cmp maps.devices device bits }

abbrev pub with_event : Maps → ℕ × ℕ → ℕ × ℕ → Maps
with_event maps event pair = record maps { events = insert_entry event_cmp maps.events event pair }

abbrev pub with_collection : Maps → ℕ → ℕ → Maps
with_collection maps icid vcpu = record maps { collections = insert_entry nat_cmp maps.collections icid vcpu }

-- the maps without one; the same maps where it is not mapped
abbrev pub without_device : Maps → ℕ → Maps
without_device maps device = record maps { devices = remove_entry (is_at (nat_cmp device)) maps.devices }

abbrev pub without_event : Maps → ℕ × ℕ → Maps
without_event maps event = record maps { events = remove_entry (is_at (event_cmp event)) maps.events }

abbrev pub without_collection : Maps → ℕ → Maps
without_collection maps icid = record maps { collections = remove_entry (is_at (nat_cmp icid)) maps.collections }

-- the maps of every ItsTables: each key stands once, and in order; an INTID stands at most once (own choice); and each event is one of a mapped device
pub record IsSound (maps : Maps) : Type 0 where
  pub devices : IsStrictlySortedBy nat_cmp (keys_of maps.devices)
  pub events : IsStrictlySortedBy event_cmp (keys_of maps.events)
  pub collections : IsStrictlySortedBy nat_cmp (keys_of maps.collections)
  pub one_each : (x y : ℕ × ℕ) (id a b : ℕ) → pair_of maps x ≡ Some (id, a) → pair_of maps y ≡ Some (id, b) → x ≡ y
  pub of_mapped : (event pair : ℕ × ℕ) → pair_of maps event ≡ Some pair → IsSome (bits_of maps event.0)

-- an index of the events by INTID: its INTIDs are in order, and it has for each INTID the event that has it
pub record IsIndex (owners : List (ℕ × (ℕ × ℕ))) (maps : Maps) : Type 0 where
  pub ordered : IsStrictlySortedBy nat_cmp (keys_of owners)
  pub inverse : (id : ℕ) → lookup (is_at (nat_cmp id)) owners ≡ owner_of maps id

-- the maps of every ItsTables, and its index
pub record IsIndexed (owners : List (ℕ × (ℕ × ℕ))) (maps : Maps) : Type 0 where
  pub sound : IsSound maps
  pub index : IsIndex owners maps
