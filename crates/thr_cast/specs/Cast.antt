-- The actors of a run, as they come (own choice).
use Rattle.std.specs.Prelude.{◌≡◌, ℕ, ◌+◌, false, All, List, ◌++◌, length, map, take}
use Rattle.std.specs.List.{range_with_len}
use Rattle.thr_trip.specs.PortTable.Told.{WordsTold}
use Rattle.thr_trip.specs.declared.device.DeviceRun.{DeviceRun}
use Rattle.thr_trip.specs.declared.naming.Naming.{Ghosts}
use Rattle.thr_trip.specs.declared.trip.Trip.{Trip}
use Rattle.thr_trip.specs.Device.{DeviceTold}
use Rattle.thr_trip.specs.Script.{all_vcpus}
use Rattle.thr_trip.specs.Told.{device_told}
use Rattle.thr_trip.specs.VcpuShelf.Answer.{AreInPlace}
use Rattle.thr_cast.specs.declared.cast.Cast.{Cast}
use Rattle.thr_cast.specs.Names.{DeviceName, all_devices}

-- a device by its name
abbrev pub name_of : DeviceTold → DeviceName
name_of device = record { guest = device.guest; device = device.device }

abbrev pub names_of : {J : Type 0} {run : Ghosts J} → List (DeviceRun J run) → List DeviceName
names_of devices = map (λ device. name_of (device_told device)) devices

-- the first devices of a guest
abbrev pub first_devices : ℕ → ℕ → List DeviceName
first_devices guest count = map (λ device. record { guest = guest; device = device }) (range_with_len 0 count)

-- those that are there: of the guests before this one all vCPUs and devices, and of this one the first ones, each vCPU at its place, and each device with nothing done
pub record HasCast {J : Type 0} {run : Ghosts J} (words : List WordsTold) (cast : Cast J run) (guest vcpus : ℕ) (devices : List DeviceName) : Type 0 where
  pub each : length cast.trips.items ≡ length (all_vcpus (take guest words)) + vcpus
  pub placed : AreInPlace (λ (trip : Trip J run). trip.place) cast.trips.items
  pub names : names_of cast.devices.items ≡ all_devices (take guest words) ++ devices
  pub fresh : All (λ (device : DeviceRun J run). device.done ≡ false) cast.devices.items
