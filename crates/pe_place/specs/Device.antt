-- What a device did over its port (own choice).
use Rattle.std.specs.Prelude.{◌≡◌, ◌⊎◌, false, List, None}
use Rattle.gic_msi.specs.Calls.{Device}
use Rattle.gic_msi.specs.Words.{DeviceOp}
use Rattle.gic_msi.specs.Core.{Made, Seen, Adds, shape_of, MakesCall, MakesPost, IsProperPart}
use Rattle.gic_msi.specs.DevPort.Device.{CanCall}
use Rattle.pe_place.specs.Parts.{IsSent}

-- a device made its call, in one part, which is proper; a message to the ITS goes one of its ways; after it the device can make another call
pub record DoesEvent (old new : Seen) (op : DeviceOp) : Type 0 where
  pub part : List Made
  pub adds : Adds old new part
  pub call : MakesCall old part (Device op) None ⊎ MakesPost old part (Device op) None
  pub sent : IsSent (shape_of old) (Device op) part
  pub proper : IsProperPart old part (Device op) 0 None
  pub tables : new.taken ≡ false
  pub after : CanCall new
