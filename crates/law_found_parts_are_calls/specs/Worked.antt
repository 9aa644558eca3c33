-- The worked run of whole parts: a port may tell of each what it found.
use Rattle.std.specs.Prelude.{[]}
use Rattle.law_unmapped_lpis.specs.Histories.{CanOpen}
use Rattle.pe_mem.specs.Core.{IsProperRun, worked_guest}
use Rattle.law_serial_is_eager.specs.Serial.{AreFit, moments_of}
use Rattle.law_serial_is_eager.specs.Worked.{worked_parts}
use Rattle.law_found_parts_are_calls.specs.Found.{AreEagerCalls, AreFoundParts}

-- it meets what the law of such runs asks, so that is no law of nothing
pub record WorkedPartsAreFound : Type 0 where
  pub good : CanOpen worked_guest
  pub proper : IsProperRun worked_guest 0 (moments_of worked_parts)
  pub found : AreFoundParts worked_guest 0 [] worked_parts
  pub fits : AreFit worked_guest 0 [] worked_parts
  pub eager : AreEagerCalls worked_guest 0 worked_parts
