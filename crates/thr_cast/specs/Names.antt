-- The devices of all guests (own choice).
use Rattle.std.specs.Prelude.{ℕ, List, map}
use Rattle.std.specs.List.{flat_map, range_with_len}
use Rattle.thr_trip.specs.PortTable.Told.{WordsTold}

-- a device, by its guest and its number there
pub record DeviceName : Type 0 where
  pub guest : ℕ
  pub device : ℕ

-- the devices of all guests, in the order of guest and number
abbrev pub devices_of : WordsTold → List DeviceName
devices_of words = map (λ device. record { guest = words.number; device = device }) (range_with_len 0 words.guest.shape.devices)

abbrev pub all_devices : List WordsTold → List DeviceName
all_devices words = flat_map devices_of words
