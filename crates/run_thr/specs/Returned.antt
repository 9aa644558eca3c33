-- Those that had a thread, once all have returned (own choice).
use Rattle.std.specs.Prelude.{◌≡◌, true, List, All, map}
use Rattle.thr_cast.specs.Cast.{name_of}
use Rattle.thr_cast.specs.Crew.{IsOver, devices_in, has_pe}
use Rattle.thr_cast.specs.ThrTrip.declared.device.DeviceRun.{DeviceRun}
use Rattle.thr_cast.specs.ThrTrip.declared.naming.Naming.{Ghosts}
use Rattle.thr_cast.specs.ThrTrip.declared.trip.Trip.{Trip}
use Rattle.thr_cast.specs.ThrTrip.declared.worker.Worker.{Worker}
use Rattle.thr_cast.specs.VcpuShelf.Told.{ShelfTold}

-- each PE found all vCPUs done, and each device, which is the one that it was, is done
pub record HaveReturned {J : Type 0} {run : Ghosts J} (shelf : ShelfTold) (old new : List (Worker (Trip J run) (DeviceRun J run))) : Type 0 where
  pub over : All (IsOver shelf) new
  pub names : map name_of (devices_in new) ≡ map name_of (devices_in old)
  pub finished : All (λ device. device.done ≡ true) (devices_in new)
  pub pe : has_pe new ≡ has_pe old
