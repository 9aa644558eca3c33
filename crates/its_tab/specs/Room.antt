-- The room that the tables of an ITS open with, and that what is mapped fits (own choice: IHI 0069 leaves the sizes of tables to software).
use Rattle.std.specs.Prelude.{ℕ, ◌≡◌, ◌≤◌, ◌<◌, List, length}
use Rattle.std.specs.List.{AllByRecursion}
use Rattle.std.specs.Map.{keys_of}
use Rattle.its_tab.specs.Maps.{Maps, IsIndexed}

-- for how many pairs there is room in each table
pub record Room : Type 0 where
  pub devices : ℕ
  pub events : ℕ
  pub collections : ℕ
  pub owners : ℕ

-- each DeviceID and each ICID of 16 bits finds room, and an event for each LPI that a guest can have
pub record IsEnough (room : Room) : Type 0 where
  pub devices : 65536 ≤ room.devices
  pub events : 4096 ≤ room.events
  pub collections : 65536 ≤ room.collections
  pub owners : 4096 ≤ room.owners

-- the INTID of an LPI that a guest can have
abbrev pub IsLpi : ℕ → Type 0
IsLpi id = (8192 ≤ id) × (id < 12288)

-- the maps fit: DeviceIDs and ICIDs have 16 bits, INTIDs are of LPIs, and there are as many events as INTIDs that one has
pub record Fit (owners : List (ℕ × (ℕ × ℕ))) (maps : Maps) : Type 0 where
  pub devices : AllByRecursion (λ device. device < 65536) (keys_of maps.devices)
  pub collections : AllByRecursion (λ icid. icid < 65536) (keys_of maps.collections)
  pub lpis : AllByRecursion IsLpi (keys_of owners)
  pub one_each : length maps.events ≡ length owners

-- the maps of every ItsTables, its index, and the room that it has
pub record IsKept (owners : List (ℕ × (ℕ × ℕ))) (maps : Maps) (room : Room) : Type 0 where
  pub indexed : IsIndexed owners maps
  pub fit : Fit owners maps
  pub enough : IsEnough room
