-- Ports that were joined again, one after the other (own choice).
use Rattle.std.specs.Prelude.{◌≡◌, ℕ, true, false, Bool, List, [], ◌∷◌, All}
use Rattle.thr_trip.specs.Core.{Seen}
use Rattle.thr_trip.specs.PortTable.Told.{RootTold, joining_in}
use Rattle.thr_trip.specs.declared.device.DeviceRun.{DeviceRun}
use Rattle.thr_trip.specs.declared.naming.Naming.{Ghosts}
use Rattle.thr_trip.specs.declared.trip.Trip.{Trip}
use Rattle.thr_trip.specs.declared.worker.Worker.{Worker}
use Rattle.thr_trip.specs.declared.worker.Worker.TheVariants.{Pe, Device}
use Rattle.thr_trip.specs.Device.{DeviceTold}
use Rattle.thr_trip.specs.Seat.{IsDoneSeat}
use Rattle.thr_trip.specs.Told.{device_told}
use Rattle.thr_trip.specs.Worker.{CanWork}
use Rattle.thr_trip.specs.VcpuShelf.Shelf.{seat_told}
use Rattle.thr_trip.specs.VcpuShelf.Told.{ShelfTold}

-- the roots after these ports were joined
abbrev pub joined_all : List Seen → List RootTold → List RootTold
joined_all [] root = root
joined_all (seen ∷ seens) root = joined_all seens (joining_in seen root)

-- the devices among workers
abbrev pub devices_in : {J : Type 0} {run : Ghosts J} → List (Worker (Trip J run) (DeviceRun J run)) → List DeviceTold
devices_in [] = []
devices_in (Pe pe ∷ workers) = devices_in workers
devices_in (Device device ∷ workers) = device_told device ∷ devices_in workers

-- a PE is among them
abbrev pub has_pe : {J : Type 0} {run : Ghosts J} → List (Worker (Trip J run) (DeviceRun J run)) → Bool
has_pe [] = false
has_pe (Pe pe ∷ workers) = true
has_pe (Device device ∷ workers) = has_pe workers

-- the numbers of the PEs among them, in their order
abbrev pub pe_numbers : {J : Type 0} {run : Ghosts J} → List (Worker (Trip J run) (DeviceRun J run)) → List ℕ
pe_numbers [] = []
pe_numbers (Pe pe ∷ workers) = pe.pe ∷ pe_numbers workers
pe_numbers (Device device ∷ workers) = pe_numbers workers

-- a PE found all vCPUs done, and a device is done
abbrev pub IsOver : {J : Type 0} {run : Ghosts J} → ShelfTold → Worker (Trip J run) (DeviceRun J run) → Type 0
IsOver shelf (Pe pe) = IsDoneSeat shelf (seat_told pe.seat)
IsOver shelf (Device device) = device.done ≡ true

-- these have a thread each: PEs with seats of this shelf, if there is one, and these devices, with nothing done yet
pub record HaveWorkers {J : Type 0} {run : Ghosts J} (shelf : ShelfTold) (workers : List (Worker (Trip J run) (DeviceRun J run))) (devices : List DeviceTold) (pes : Bool) : Type 0 where
  pub can : All (CanWork (λ (device : DeviceRun J run). device.done ≡ false) shelf) workers
  pub devices_are : devices_in workers ≡ devices
  pub pe : has_pe workers ≡ pes
