-- A guest of a port of one thread, the actors of which did parts one after the other (own choice).
use Rattle.std.specs.Prelude.{◌≡◌, ℕ, List, [], All}
use Rattle.law_found_parts_are_calls.specs.Histories.{last_of, home, IdealGuest, CanOpen}
use Rattle.law_found_parts_are_calls.specs.Core.{opening, ideal_of, progress_in, IsProperRun}
use Rattle.seq_guest.specs.PortSeq.Told.{GuestTold}
use Rattle.law_found_parts_are_calls.specs.Found.{AreFoundParts}
use Rattle.law_found_parts_are_calls.specs.LawSerialIsEager.Serial.{AreFit, WholePart, moments_of}
use Rattle.seq_guest.specs.declared.vcpus.Vcpus.{Vcpus}
use Rattle.seq_guest.specs.PePlace.Parts.{IsOfGuest, entries_in}
use Rattle.seq_guest.specs.Guest.{AreAt, AreFollowed}

-- the guest that some parts lead to, with all that stands at interfaces taken back
abbrev pub home_after : IdealGuest → ℕ → List WholePart → IdealGuest
home_after guest number parts = home (last_of guest (ideal_of guest.shape (opening guest number) (moments_of parts)))

-- parts of a good guest's actors, on PEs with so many list registers, are a proper run; each is told with what it found; and where one is for an access of a CPU interface, each
-- vCPU is at ease as it begins
pub record AreSerial (guest : IdealGuest) (number lrs : ℕ) (parts : List WholePart) : Type 0 where
  pub good : CanOpen guest
  pub formed : All (IsOfGuest guest.shape lrs) parts
  pub proper : IsProperRun guest number (moments_of parts)
  pub found : AreFoundParts guest number [] parts
  pub fits : AreFit guest number [] parts

-- they are all that was done to a guest of a port since it opened, and its vCPUs are where that left them
pub record HasDone (guest : IdealGuest) (number : ℕ) (told : GuestTold) (vcpus : Vcpus) (parts : List WholePart) : Type 0 where
  pub guest_is : told.guest ≡ guest
  pub number_is : told.number ≡ number
  pub world : told.world ≡ entries_in parts
  pub serial : AreSerial guest number vcpus.lrs parts
  pub at : AreAt told vcpus
  pub followed : AreFollowed told vcpus (progress_in guest number (moments_of parts))
