-- The vCPUs of guests that just opened (own choice).
use Rattle.std.specs.Prelude.{◌≡◌, ℕ, List, length, Some, slice_get}
use Rattle.law_ends_agree.specs.Histories.{IdealGuest}
use Rattle.law_one_thread_is_eager.specs.PortSeq.Told.{GuestTold, SeqTold, guest_at, opening_told}
use Rattle.law_one_thread_is_eager.specs.SeqGuest.declared.vcpus.Vcpus.{Vcpus}
use Rattle.law_one_thread_is_eager.specs.PePlace.Place.{shelf}
use Rattle.law_one_thread_is_eager.specs.SeqGuest.Guest.{AreAt, spot_at}

-- a guest of a port as it opened, whichever of its actors is told
pub record JustOpened (guest : IdealGuest) (number : ℕ) (told : GuestTold) : Type 0 where
  pub is : told ≡ record (opening_told told.home guest number) { actor = told.actor }

-- with its vCPUs, each of which is on no PE
pub record IsOpened (guest : IdealGuest) (number lrs : ℕ) (told : GuestTold) (vcpus : Vcpus) : Type 0 where
  pub opened : JustOpened guest number told
  pub at : AreAt told vcpus
  pub lrs_is : vcpus.lrs ≡ lrs
  pub spots : (vcpu : ℕ) → spot_at vcpus vcpu ≡ shelf

-- so it is of the first of the guests
pub record AreOpened (states : List IdealGuest) (lrs : ℕ) (told : SeqTold) (guests : List Vcpus) (count : ℕ) : Type 0 where
  pub ports : length told.guests ≡ length states
  pub each : length guests ≡ count
  pub ones : (number : ℕ) (guest : IdealGuest) (vcpus : Vcpus) → slice_get states number ≡ Some guest → slice_get guests number ≡ Some vcpus → IsOpened guest number lrs (guest_at told number) vcpus
