-- A guest as it is after reset.
use Rattle.std.proofs.Common.{ℕ, Bool, false, lit<, arith}
use Rattle.ideal_guest.specs.Words.{GuestShape, IsShape}
use Rattle.ideal_guest.specs.Calls.{IsGoodGuest, opening_cpu}
use Rattle.ideal_guest.specs.Ideal.{with_cpu}
use Rattle.ideal_guest.specs.declared.guest.IdealGuest.{IdealGuest}
use Rattle.ideal_guest.specs.Sound.{IsSound}
use Rattle.ideal_guest.proofs.OpeningLemmas.{sound_opening, empty_valid}
use Rattle.ideal_guest.proofs.SoundLemmas.{sound_with_points}
use Rattle.gic_vm.specs.State.{after_reset}
use Rattle.gic_vm.specs.Reset.{reset_of}

-- what opens after reset is good
pub good_reset : (shape : GuestShape) → IsShape shape → IsGoodGuest (after_reset shape)
good_reset shape is = record { shape = is; presets = λ k d h. absurd (omega (arith, h)) }

-- the guest after reset is one that the ideal controller reaches
pub sound_reset : (guest : IdealGuest) → IsSound guest → IsSound (reset_of guest)
sound_reset guest sound = sound_opening (after_reset guest.shape) (good_reset guest.shape sound.shape) (empty_valid guest.shape)

-- a guest whose vCPU was reset is one that the ideal controller reaches
pub sound_cpu : (guest : IdealGuest) (vcpu : ℕ) (lpis : Bool) → IsSound guest → IsSound (with_cpu guest vcpu (record (opening_cpu false) { lpis = lpis }))
sound_cpu guest vcpu lpis sound =
    sound_with_points guest vcpu (record (opening_cpu false) { lpis = lpis }) sound (record { group_0 = omega arith; group_1 = omega arith }) (lit< tt) (lit< tt)
