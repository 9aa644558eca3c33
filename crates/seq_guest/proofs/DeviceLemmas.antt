-- A device of a guest does an operation.
use Rattle.std.proofs.Common.{◌≡◌, ℕ, ◌+◌, ◌<◌, None, ap, subst, arith}
use Rattle.guest_end.specs.Words.{DeviceOp}
use Rattle.guest_end.specs.Calls.{Device}
use Rattle.port_seq.specs.Told.{GuestTold, seen_of}
use Rattle.seq_guest.specs.declared.vcpus.Vcpus.{Vcpus}
use Rattle.pe_place.specs.Device.{DoesEvent}
use Rattle.pe_place.specs.Parts.{HaveCall}
use Rattle.seq_guest.specs.Guest.{AreAt, GoesOn}
use Rattle.seq_guest.proofs.GuestLemmas.{device_goes}

pub received :
    (first mid new : GuestTold) (vcpus : Vcpus) (count device : ℕ) (op : DeviceOp) → count ≡ first.guest.shape.vcpus → device < first.guest.shape.devices → AreAt first vcpus → mid ≡ record first { actor = count + device } → DoesEvent (seen_of mid) (seen_of new) op → GoesOn (HaveCall (first.guest.shape.vcpus + device) (Device op) None) first new vcpus vcpus
received first mid new vcpus count device op all there at is does =
    let actor = count + device in
    let is_actor : actor ≡ first.guest.shape.vcpus + device = ap (λ n. n + device) all in
    let so = subst (λ (told : GuestTold). DoesEvent (seen_of told) (seen_of new) op) is does in
    subst (λ n. GoesOn (HaveCall n (Device op) None) first new vcpus vcpus) is_actor
    (device_goes first new vcpus actor op (omega (arith, all)) (omega (arith, all, there)) at so)
