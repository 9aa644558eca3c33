-- A device that did all that it had to do.
use Rattle.std.specs.Prelude.{◌≡◌, true}
use Rattle.thr_trip.specs.Device.{DeviceTold}

-- it is the same device, and its script is done
pub record HasFinished (before after : DeviceTold) : Type 0 where
  pub guest : after.guest ≡ before.guest
  pub device : after.device ≡ before.device
  pub all : after.done ≡ true
