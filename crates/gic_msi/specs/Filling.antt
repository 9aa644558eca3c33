-- The line of a message is filled by the actor that has the ITS and has translated it (own choice).
use Rattle.std.specs.Prelude.{◌≡◌, ℕ, true, IsTrue, List, Option, Some}
use Rattle.dev_port.specs.Words.{Lpi, has_interrupt}
use Rattle.dev_port.specs.Registers.{has_lpis}
use Rattle.dev_port.specs.Calls.{ItsCtlr}
use Rattle.dev_port.specs.Core.{Made, known_lpi, is_known, Seen, shape_of}
use Rattle.dev_port.specs.GicCall.declared.event.Place.TheVariants.{Word}
use Rattle.dev_port.specs.Device.{GoesUnseen}
use Rattle.gic_msi.specs.Message.{is_short_message}
use Rattle.gic_msi.specs.Fill.{TellsLine, TellsLineOf}

-- the actor has the ITS and knows no line to be shut, and it knows that the message becomes the LPI, which the guest has
pub record CanFillLine (seen : Seen) (device event lpi : ℕ) : Type 0 where
  pub lpis : has_lpis (shape_of seen) ≡ true
  pub there : IsTrue (has_interrupt (shape_of seen) (Lpi lpi))
  pub turn : IsTrue seen.local.turn
  pub shut : seen.local.shut ≡ 0
  pub looked : IsTrue (is_known (shape_of seen) seen.actor seen.own (Word ItsCtlr))
  pub translates : known_lpi (shape_of seen) seen.actor seen.own device event ≡ Some lpi

-- it told the line, and only what it knows of lines has changed of it
pub record FillsLine (old new : Seen) (device event lpi : ℕ) : Type 0 where
  pub part : List Made
  pub form : TellsLine device event lpi part
  pub unseen : GoesUnseen old new part
  pub local_is : new.local ≡ record old.local { shut = new.local.shut }

-- so it did where the message fits a line and becomes an LPI, else nothing
pub record TellsIfShort (old new : Seen) (device event : ℕ) (id : Option ℕ) : Type 0 where
  pub part : List Made
  pub form : TellsLineOf (is_short_message device event) device event id part
  pub unseen : GoesUnseen old new part
  pub local_is : new.local ≡ record old.local { shut = new.local.shut }
