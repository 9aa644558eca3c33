-- A device that has the ITS fills the translation line of a message (own choice).
use Rattle.std.specs.Prelude.{◌≡◌, ℕ, ◌==◌, Bool, true, false, IsTrue, List, [], ◌∷◌, Option, Some}
use Rattle.dev_port.specs.Words.{GuestShape, Msi}
use Rattle.dev_port.specs.Registers.{enabled_in, translated}
use Rattle.dev_port.specs.Core.{Made, Look, LineClose, LineFill, Line, LineRecord, line_of, is_empty_line, Seen, shape_of}
use Rattle.dev_port.specs.PortCall.Piece.{IsPiece}
use Rattle.dev_port.specs.Device.{IsDevicePart, IsMsiPart}
use Rattle.gic_msi.specs.Message.{is_short_message, line_of_message, has_message}

-- the line of a message that has it, with no device in it
abbrev pub filled_line : ℕ → ℕ → ℕ → LineRecord
filled_line device event lpi = record { pair = Some (device, event); lpi = lpi; inside = 0 }

-- the line is filled: where the step finds it without a message and a device, as it does where the actor knows it to be shut, its word has the message then
pub record Fills (device event lpi : ℕ) (part : List Made) : Type 0 where
  pub fill : Made
  pub part_is : part ≡ fill ∷ []
  pub fill_is : fill.step ≡ LineFill (line_of_message device event) device event lpi
  pub stored : IsTrue (is_empty_line (line_of fill.found)) → line_of fill.left ≡ filled_line device event lpi

-- it is where no device was in it when it was closed, else nothing more is done
abbrev pub FillsIf : Bool → ℕ → ℕ → ℕ → List Made → Type 0
FillsIf true device event lpi part = Fills device event lpi part
FillsIf false device event lpi part = part ≡ []

-- the line is closed first
pub record ClosesAndFills (device event lpi : ℕ) (part : List Made) : Type 0 where
  pub close : Made
  pub rest : List Made
  pub part_is : part ≡ close ∷ rest
  pub close_is : close.step ≡ LineClose (line_of_message device event)
  pub fills : FillsIf ((line_of close.found).inside == 0) device event lpi rest

-- that is done where the line does not have the message yet
abbrev pub RefillsUnless : Bool → ℕ → ℕ → ℕ → List Made → Type 0
RefillsUnless true device event lpi part = part ≡ []
RefillsUnless false device event lpi part = ClosesAndFills device event lpi part

-- a look at the line of a message tells that
pub record TellsLine (device event lpi : ℕ) (part : List Made) : Type 0 where
  pub look : Made
  pub rest : List Made
  pub part_is : part ≡ look ∷ rest
  pub look_is : look.step ≡ Look (Line (line_of_message device event))
  pub refills : RefillsUnless (has_message device event look.found) device event lpi rest

-- what the line of a message is told: which LPI the message becomes, if it becomes one and fits the line
abbrev pub TellsLineOf : Bool → ℕ → ℕ → Option ℕ → List Made → Type 0
TellsLineOf true device event (Some lpi) part = TellsLine device event lpi part
TellsLineOf short device event id part = part ≡ []

-- the part of a message that the ITS translates, and that tells its line what it becomes before the ITS is given back
pub record IsFillPart (shape : GuestShape) (device event : ℕ) (part : List Made) : Type 0 where
  pub fill : List Made
  pub form : IsMsiPart shape device event fill part
  pub told : TellsLineOf (is_short_message device event) device event (translated form.maps (enabled_in form.look.found) device event) fill

-- a device sent a message so
pub record SendsAndFills (old new : Seen) (device event : ℕ) : Type 0 where
  pub part : List Made
  pub form : IsFillPart (shape_of old) device event part
  pub done : IsDevicePart old new (Msi device event) part
  pub piece : IsPiece old part
