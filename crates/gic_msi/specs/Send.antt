-- A device sends a message to the ITS, whichever way it goes (own choice).
use Rattle.std.specs.Prelude.{◌≡◌, ℕ, ◌⊎◌, ◌++◌, Bool, true, false, List, [], None}
use Rattle.dev_port.specs.Words.{GuestShape, Msi}
use Rattle.dev_port.specs.Calls.{Device}
use Rattle.dev_port.specs.Core.{Made, Seen, Adds, shape_of, MakesCall, MakesPost, IsProperPart}
use Rattle.dev_port.specs.Device.{CanCall, IsMsiPart}
use Rattle.gic_msi.specs.Message.{is_short_message}
use Rattle.gic_msi.specs.Post.{IsPost, IsNoLine, IsChanged}
use Rattle.gic_msi.specs.Fill.{IsFillPart}

-- the line does not have the message, or no more where the device was to enter it
pub record IsMiss (device event : ℕ) (part : List Made) : Type 0 where
  pub found : ℕ
  pub form : IsNoLine device event found part ⊎ IsChanged device event found part

-- then the ITS translates it, and its line is filled
pub record IsMissAndFill (shape : GuestShape) (device event : ℕ) (part : List Made) : Type 0 where
  pub miss : List Made
  pub fill : List Made
  pub part_is : part ≡ miss ++ fill
  pub missed : IsMiss device event miss
  pub filled : IsFillPart shape device event fill

-- a message whose numbers fit a line goes through it, or misses and fills it; another one goes by the ITS alone
abbrev pub IsMessageBy : Bool → GuestShape → ℕ → ℕ → List Made → Type 0
IsMessageBy true shape device event part = IsPost shape device event part ⊎ IsMissAndFill shape device event part
IsMessageBy false shape device event part = IsMsiPart shape device event [] part

abbrev pub IsMessage : GuestShape → ℕ → ℕ → List Made → Type 0
IsMessage shape device event part = IsMessageBy (is_short_message device event) shape device event part

-- a device sent a message: the part is the call, in one form or the other, and proper; after it the device can make another one
pub record SendsMessage (old new : Seen) (device event : ℕ) : Type 0 where
  pub part : List Made
  pub form : IsMessage (shape_of old) device event part
  pub adds : Adds old new part
  pub call : MakesCall old part (Device (Msi device event)) None ⊎ MakesPost old part (Device (Msi device event)) None
  pub proper : IsProperPart old part (Device (Msi device event)) 0 None
  pub tables : new.taken ≡ false
  pub after : CanCall new
