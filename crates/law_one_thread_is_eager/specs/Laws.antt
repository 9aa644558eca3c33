-- Laws of what was done to a guest of a port of one thread (own choice).
use Rattle.std.specs.Prelude.{◌≡◌, ℕ, ◌<◌, true, List, [], ◌++◌, Option}
use Rattle.law_found_parts_are_calls.specs.Calls.{Operation}
use Rattle.law_found_parts_are_calls.specs.Histories.{IdealGuest, CanOpen}
use Rattle.law_found_parts_are_calls.specs.GicIdeal.Shown.{registers_of}
use Rattle.law_found_parts_are_calls.specs.Core.{IsRun, opening}
use Rattle.seq_guest.specs.PortSeq.Told.{GuestTold, opening_told}
use Rattle.law_found_parts_are_calls.specs.LawLoneCallsAreEager.LoneCalls.{IsEagerCall}
use Rattle.law_found_parts_are_calls.specs.LawLoneCallsAreEager.Runs.{IsGoodCall}
use Rattle.law_found_parts_are_calls.specs.LawSerialIsEager.Serial.{WholePart, is_icc}
use Rattle.seq_guest.specs.declared.vcpus.Vcpus.{Vcpus}
use Rattle.seq_guest.specs.PePlace.Parts.{AreResidences, HaveCall}
use Rattle.seq_guest.specs.PePlace.Place.{shelf}
use Rattle.seq_guest.specs.Guest.{AreAt, GoesOn, NoneKicked, ShowsList, spot_at}
use Rattle.law_one_thread_is_eager.specs.Done.{HasDone, home_after}

-- as a guest opens, whichever actor is told, with its vCPUs on no PE, nothing was done to it, and it is the eager controller's guest
pub record OpensAtHome (guest : IdealGuest) (number : ℕ) (told : GuestTold) (vcpus : Vcpus) : Type 0 where
  pub done : HasDone guest number told vcpus []
  pub home_is : home_after guest number [] ≡ guest

abbrev pub GuestsOpenAtHome : Type 0
GuestsOpenAtHome =
    (guest : IdealGuest) (number : ℕ) (told : GuestTold) (vcpus : Vcpus) → CanOpen guest → told ≡ record (opening_told told.home guest number) { actor = told.actor } → AreAt told vcpus → ((vcpu : ℕ) → spot_at vcpus vcpu ≡ shelf) → OpensAtHome guest number told vcpus

-- where its vCPUs enter and leave, that too was done to it, and with all taken back it is as it was
pub record KeepsHome (guest : IdealGuest) (number : ℕ) (told : GuestTold) (vcpus : Vcpus) (early late : List WholePart) : Type 0 where
  pub done : HasDone guest number told vcpus (early ++ late)
  pub home_is : home_after guest number (early ++ late) ≡ home_after guest number early

abbrev pub ResidencesKeepHome : Type 0
ResidencesKeepHome =
    (guest : IdealGuest) (number : ℕ) (old new : GuestTold) (before after : Vcpus) (early : List WholePart) → HasDone guest number old before early → IsRun new.guest.shape (opening new.guest new.number) new.world
    → (goes : GoesOn AreResidences old new before after) → KeepsHome guest number new after early goes.parts

-- where a call is among them, it does to that guest what the eager controller does, and answers the same
pub record PassesHome (guest : IdealGuest) (number : ℕ) (told : GuestTold) (vcpus : Vcpus) (early late : List WholePart) (actor : ℕ) (operation : Operation) (answer : Option ℕ) : Type 0 where
  pub done : HasDone guest number told vcpus (early ++ late)
  pub call : IsEagerCall actor operation answer (home_after guest number early) (home_after guest number (early ++ late))

-- so it is of each call that its actor can ask for, where no vCPU that is on a PE was kicked before, and an access of a CPU interface comes first
abbrev pub CallsPassHome : Type 0
CallsPassHome =
    (guest : IdealGuest) (number : ℕ) (old new : GuestTold) (before after : Vcpus) (early : List WholePart) (actor : ℕ) (operation : Operation) (answer : Option ℕ) → HasDone guest number old before early
    → IsRun new.guest.shape (opening new.guest new.number) new.world → (goes : GoesOn (HaveCall actor operation answer) old new before after) → (is_icc operation ≡ true → goes.are.early ≡ []) → NoneKicked old before
    → IsGoodCall guest.shape actor operation → PassesHome guest number new after early goes.parts actor operation answer

-- where a vCPU that is on a PE leaves it and enters it again, with all others as they were, and then some leave and enter: that too was done to it, it is as it was, and the registers
-- that are shown are those that the ideal controller shows of the vCPU
pub record ShowsHomeOf (guest : IdealGuest) (number lrs : ℕ) (told : GuestTold) (vcpus : Vcpus) (early late : List WholePart) (vcpu : ℕ) (list : List ℕ) : Type 0 where
  pub done : HasDone guest number told vcpus (early ++ late)
  pub home_is : home_after guest number (early ++ late) ≡ home_after guest number early
  pub shown : list ≡ registers_of lrs (home_after guest number early) vcpu

-- so it is where no vCPU that is on a PE was kicked before
abbrev pub RegistersShowHome : Type 0
RegistersShowHome =
    (guest : IdealGuest) (number : ℕ) (old new : GuestTold) (before after : Vcpus) (early : List WholePart) (vcpu : ℕ) (list : List ℕ) → HasDone guest number old before early → IsRun new.guest.shape (opening new.guest new.number) new.world → NoneKicked old before
    → vcpu < guest.shape.vcpus → (shown : ShowsList old new before after vcpu list) → ShowsHomeOf guest number before.lrs new after early (shown.shows.goes_on.parts ++ shown.later.parts) vcpu list
