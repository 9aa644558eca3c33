-- Where a vCPU is, where it is not in one of the places.
use Rattle.std.proofs.Common.{◌≡◌, ℕ, refl}
use Rattle.pe_op.specs.VcpuState.declared.shelved.Shelved.{Shelved}
use Rattle.pe_op.specs.VcpuState.declared.loaded.Loaded.{Loaded}
use Rattle.pe_place.specs.declared.place.Place.{Place}
use Rattle.pe_place.specs.declared.place.Place.TheVariants.{Shelf, Aside, Pe}
use Rattle.pe_place.specs.Place.{spot_of, entered, left, gone_aside, returned, HasRegisters}

-- on no PE's shelf

pub not_entered : (place : Place) → ((vcpu : Shelved) → place ≡ Shelf vcpu → ⊥) → spot_of place ≡ entered (spot_of place)
not_entered (Shelf vcpu) is_not = absurd (is_not vcpu refl)
not_entered (Aside vcpu) is_not = refl
not_entered (Pe vcpu) is_not = refl

pub not_returned : (place : Place) → ((vcpu : Shelved) → place ≡ Aside vcpu → ⊥) → spot_of place ≡ returned (spot_of place)
not_returned (Shelf vcpu) is_not = refl
not_returned (Aside vcpu) is_not = absurd (is_not vcpu refl)
not_returned (Pe vcpu) is_not = refl

-- not on a PE

pub not_left : (place : Place) → ((vcpu : Loaded) → place ≡ Pe vcpu → ⊥) → spot_of place ≡ left (spot_of place)
not_left (Shelf vcpu) is_not = refl
not_left (Aside vcpu) is_not = refl
not_left (Pe vcpu) is_not = absurd (is_not vcpu refl)

pub not_gone : (place : Place) → ((vcpu : Loaded) → place ≡ Pe vcpu → ⊥) → spot_of place ≡ gone_aside (spot_of place)
not_gone (Shelf vcpu) is_not = refl
not_gone (Aside vcpu) is_not = refl
not_gone (Pe vcpu) is_not = absurd (is_not vcpu refl)

pub no_registers : (place : Place) → ((vcpu : Loaded) → place ≡ Pe vcpu → ⊥) → (lrs : ℕ) → HasRegisters lrs place
no_registers (Shelf vcpu) is_not lrs = tt
no_registers (Aside vcpu) is_not lrs = tt
no_registers (Pe vcpu) is_not lrs = absurd (is_not vcpu refl)
