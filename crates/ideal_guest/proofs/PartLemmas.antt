-- The LPIs of a command, and what its parts are.
use Rattle.std.proofs.Common.{◌≡◌, ℕ, ◌+◌, ◌<◌, Bool, true, false, if◌then◌else◌, nat_eq, Option, Some, None, List, [], All, IsTrue, IfSome, option_to_list, refl, sym, ap, subst, ◌∙◌, arith}
use Rattle.std.specs.Option.{option_eq}
use Rattle.std.proofs.lemmas.Grind.{common_steps}
use Rattle.std.proofs.lemmas.List.Elements.{All-head}
use Rattle.floor_calls.specs.Words.{GuestShape, Lpi, has_interrupt, Route, Affinity, Target, is_number, target_in, is_routed_as}
use Rattle.floor_calls.specs.Registers.{Mapd, Maps, maps_after, with_device, without_device, without_events}
use Rattle.floor_calls.specs.Calls.{Part}
use Rattle.floor_calls.proofs.ItsTab.CarryLemmas.{without_events-none, first_event-without_events}
use Rattle.ideal_guest.specs.declared.guest.IdealGuest.{IdealGuest}
use Rattle.ideal_guest.specs.Ideal.{irq_at}
use Rattle.ideal_guest.specs.Sound.{IsSound}

-- a comparison with a number, as the definitions say it
pub is_number-equal : (n : ℕ) (o : Option ℕ) → is_number n o ≡ option_eq nat_eq o (Some n)
is_number-equal n None = refl
is_number-equal n (Some m) = refl

-- the vCPU that an LPI is for is one of the guest
routed_there : (shape : GuestShape) (id : ℕ) (route : Route) → IsTrue (is_routed_as shape (Lpi id) route) → IfSome (target_in route shape) (λ vcpu. vcpu < shape.vcpus)
routed_there shape id (Affinity a) h = absurd (cc)
routed_there shape id (Target None) h = tt
routed_there shape id (Target (Some vcpu)) h = grind (arith, common_steps, h)

pub lpi_target_there : (guest : IdealGuest) (id : ℕ) → IsSound guest → IsTrue (has_interrupt guest.shape (Lpi id)) → IfSome (target_in (irq_at guest (Lpi id)).route guest.shape) (λ vcpu. vcpu < guest.shape.vcpus)
lpi_target_there guest id sound there = routed_there guest.shape id (irq_at guest (Lpi id)).route (sound.records (Lpi id) there).valid.route

-- what holds of all that there is if a test passes holds of the one
pub holds_of_one : (P : Part → Type 0) (passes : Bool) (o : Option Part) (parts : List Part) → option_to_list o ≡ (if passes then parts else []) → All P parts → IfSome o P
holds_of_one P passes None parts e all = tt
holds_of_one P true (Some part) parts e all = All-head P part [] (subst (All P) (sym e) all)
holds_of_one P false (Some part) parts e all = absurd (cc)

-- a MAPD does the same to the maps once the device's events are unmapped
pub mapd_maps : (maps new : Maps) (device size itt_addr : ℕ) (valid : Bool) → new ≡ without_events maps device → maps_after new (Mapd device size itt_addr valid) ≡ maps_after maps (Mapd device size itt_addr valid)
mapd_maps maps new device size itt_addr valid is = of valid (ap (λ m. without_events m device) is ∙ without_events-none (without_events maps device) device (first_event-without_events maps device))
  where
    of : (b : Bool) → without_events new device ≡ without_events maps device → maps_after new (Mapd device size itt_addr b) ≡ maps_after maps (Mapd device size itt_addr b)
    of true same = ap (λ m. with_device m device (size + 1)) same
    of false same = ap (λ m. without_device m device) same
