-- What vCPUs, devices and PEs of a run tell.
use Rattle.port_table.specs.Ports.{seen_of}
use Rattle.thr_trip.specs.declared.device.DeviceRun.{DeviceRun}
use Rattle.thr_trip.specs.declared.naming.Naming.{Ghosts}
use Rattle.thr_trip.specs.declared.trip.Trip.{Trip}
use Rattle.thr_trip.specs.Device.{DeviceTold}
use Rattle.thr_trip.specs.Trip.{TripTold}

abbrev pub trip_told : {J : Type 0} {run : Ghosts J} → Trip J run → TripTold
trip_told trip = record { vcpu = trip.vcpu; place = trip.place; script = trip.script; answers = trip.answers.items; seen = seen_of trip.port }

abbrev pub device_told : {J : Type 0} {run : Ghosts J} → DeviceRun J run → DeviceTold
device_told device = record { guest = device.guest; device = device.device; script = device.script; done = device.done; seen = seen_of device.port }
