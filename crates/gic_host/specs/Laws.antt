-- What holds of linked interrupts after every list of steps, whether it could be read or not.
use Rattle.std.specs.Prelude.{ℕ, ◌≡◌, ◌<◌, ◌⊎◌, ◌==◌, ◌||◌, Bool, true, false, Option, Some, List, fold, map, length, slice_get, slice_set, All, Contains}
use Rattle.std.specs.Option.{option_map_or}
use Rattle.gic_host.specs.declared.link.Link.{Link}
use Rattle.gic_host.specs.declared.step.PhysSet.TheVariants.{Clear}
use Rattle.gic_host.specs.declared.step.HostStep.{HostStep}
use Rattle.gic_host.specs.declared.step.HostStep.TheVariants.{Phys, Icc, Enter, Exit, Lrs}
use Rattle.gic_host.specs.declared.scenario.HostScenario.{HostScenario}
use Rattle.gic_host.specs.declared.state.Virtual.TheVariants.{Pending}
use Rattle.gic_host.specs.declared.state.LinkState.{LinkState}
use Rattle.gic_host.specs.State.{HostState, opening, settled_link, is_pending, is_active, after, after_all}

-- a state that steps lead to
abbrev pub reached : HostScenario → List HostStep → HostState
reached scenario steps = after_all steps (opening scenario)

-- a physical interrupt is active exactly where its virtual one is pending or active (IHI 0069, "Usage model for the List registers")
abbrev pub PhysicalFollowsVirtual : Type 0
PhysicalFollowsVirtual = (scenario : HostScenario) (steps : List HostStep) → All (λ l. l.active ≡ (is_pending l.state || is_active l.state)) (reached scenario steps).links

-- a latch that a step finds: it stays, or the link takes it and its virtual interrupt becomes pending, or the step clears it
abbrev pub IsNotLost : HostStep → LinkState → LinkState → Type 0
IsNotLost step old new = (new.latch ≡ true) ⊎ ((new.active ≡ true) × (new.state ≡ Pending)) ⊎ (step ≡ Phys old.link.phys (Some Clear))

-- no interrupt is lost: what is still latched waits for its link to be inactive or enabled, and no step loses a latch
pub record LatchesAreTaken : Type 0 where
  pub taken : (scenario : HostScenario) (steps : List HostStep) → All (λ l. l.latch ≡ true → (l.active ≡ true) ⊎ (l.enabled ≡ false)) (reached scenario steps).links
  pub kept : (host : HostState) (step : HostStep) (place : ℕ) (old new : LinkState) → slice_get host.links place ≡ Some old → slice_get (after step host).links place ≡ Some new → old.latch ≡ true → IsNotLost step old new

-- the step is one on this link's physical interrupt, or an access of its own vCPU
abbrev pub touches : HostStep → Option ℕ → Link → Bool
touches (Phys phys set) loaded link = link.phys == phys
touches (Icc reg write) loaded link = option_map_or (λ vcpu. link.vcpu == vcpu) loaded false
touches (Enter vcpu) loaded link = false
touches Exit loaded link = false
touches Lrs loaded link = false

-- no other step changes a link
abbrev pub LinksAreApart : Type 0
LinksAreApart =
    (scenario : HostScenario) (steps : List HostStep) (step : HostStep) (place : ℕ) (l : LinkState) → slice_get (reached scenario steps).links place ≡ Some l → touches step (reached scenario steps).loaded l.link ≡ false
    → slice_get (after step (reached scenario steps)).links place ≡ Some l

-- the link at a place is settled, and no other
abbrev pub settled_at : List LinkState → ℕ → List LinkState
settled_at links place = option_map_or (λ l. slice_set links place (settled_link l)) (slice_get links place) links

-- in whichever order the links are settled, one after the other, all are settled in the end
abbrev pub OrderDoesNotMatter : Type 0
OrderDoesNotMatter = (links : List LinkState) (order : List ℕ) → ((place : ℕ) → place < length links → Contains order place) → fold settled_at links order ≡ map settled_link links
