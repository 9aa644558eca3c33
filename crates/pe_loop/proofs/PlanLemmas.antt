-- What a vCPU knows of its plan.
use Rattle.std.proofs.Common.{◌≡◌, ℕ, zero, suc, ◌^◌, ◌<◌, ◌≤◌, true, List, [], ◌∷◌, map, length, slice_index_or, Contains, All, Option, Some, None, refl, sym, ap, subst, arith}
use Rattle.std.specs.Prelude.{slice_get}
use Rattle.std.specs.Option.{option_map}
use Rattle.std.proofs.lemmas.List.{length-take}
use Rattle.std.proofs.lemmas.List.Elements.{All-contains, All-weaker}
use Rattle.port_call.specs.Words.{intid_of, IsShape, has_bit, IsIrq, packed as packed_irq}
use Rattle.port_call.specs.Lists.{hcr_en, StandsAs, packed, Choice, Fill, Offer, FitsRegister, offer_of, entry_of, held_as, plan, word_of}
use Rattle.vcpu_state.proofs.GicWord.WordLemmas.{irq_fits}
use Rattle.port_call.proofs.VcpuRefill.ApartLemmas.{once}
use Rattle.port_call.proofs.VcpuRefill.EarnedLemmas.{earned, both_deliverable}
use Rattle.port_call.proofs.VcpuRefill.ElementLemmas.{Contains-here, Contains-there}
use Rattle.port_call.proofs.VcpuRefill.PlaceLemmas.{length-in_places}
use Rattle.port_call.proofs.VcpuRefill.StandLemmas.{stands, stands_chosen}
use Rattle.port_call.specs.Core.{Seen, shape_of}
use Rattle.port_call.proofs.CoreProper.IntidLemmas.{in_range, id_fits}
use Rattle.pe_loop.specs.Claiming.{IsRight, IsPlanOf}
use Rattle.pe_loop.specs.Scanning.{IsFound}

-- Places.

-- what stands at a place
pub at_place : (places : List (Option Choice)) (i : ℕ) (choice : Choice) → slice_index_or places i None ≡ Some choice → slice_get places i ≡ Some (Some choice)
at_place [] zero choice e = absurd (cc)
at_place [] (suc i) choice e = absurd (cc)
at_place (place ∷ places) zero choice e = ap Some e
at_place (place ∷ places) (suc i) choice e = at_place places i choice e

pub among_places : (places : List (Option Choice)) (i : ℕ) (choice : Choice) → slice_index_or places i None ≡ Some choice → Contains places (Some choice)
among_places [] zero choice e = absurd (cc)
among_places [] (suc i) choice e = absurd (cc)
among_places (place ∷ places) zero choice e = subst (λ place. Contains (place ∷ places) (Some choice)) (sym e) (Contains-here (Some choice) places)
among_places (place ∷ places) (suc i) choice e = Contains-there place (Some choice) places (among_places places i choice e)

none_held : (places : List (Option Choice)) (i : ℕ) → slice_index_or (map (option_map held_as) places) i None ≡ None → slice_index_or places i None ≡ None
none_held [] zero e = refl
none_held [] (suc i) e = refl
none_held (None ∷ places) zero e = refl
none_held (Some choice ∷ places) zero e = absurd (cc)
none_held (place ∷ places) (suc i) e = none_held places i e

-- The plan.

pub fits_offer : (seen : Seen) (offer : Offer) → IsShape (shape_of seen) → IsFound seen offer → FitsRegister offer
fits_offer seen offer good found =
    let fits : IsIrq offer.irq = subst IsIrq found.record_is (irq_fits (packed_irq offer.irq) found.word.word_is) in
    let few = fits.prio_bits in
    record { id = id_fits offer.key (in_range (shape_of seen) offer.key good found.there); prio = omega (arith, few) }

pub record IsPlanned (seen : Seen) (n : ℕ) (fill : Fill) : Type 0 where
  pub each : length fill.choice ≡ 16
  pub right : (i : ℕ) (choice : Choice) → slice_index_or fill.choice i None ≡ Some choice → IsRight (shape_of seen) seen.actor seen.local.cpu choice
  pub found : (i : ℕ) (choice : Choice) → slice_index_or fill.choice i None ≡ Some choice → IsFound seen (offer_of choice)
  pub stands : (i : ℕ) (choice : Choice) → slice_index_or fill.choice i None ≡ Some choice → StandsAs (packed choice.entry) (held_as choice) (entry_of choice)
  pub hw : (i : ℕ) (choice : Choice) → slice_index_or fill.choice i None ≡ Some choice → choice.entry.hw ≡ None
  pub fits : (i : ℕ) (choice : Choice) → slice_index_or fill.choice i None ≡ Some choice → (choice.entry.id < 2 ^ 32) × (choice.entry.prio < 2 ^ 8)
  pub once : (j k : ℕ) (one other : Choice) → slice_index_or fill.choice j None ≡ Some one → slice_index_or fill.choice k None ≡ Some other → one.key ≡ other.key → j ≡ k
  pub few : (i : ℕ) → n ≤ i → slice_index_or fill.choice i None ≡ None
  pub enabled : has_bit fill.hcr hcr_en ≡ true

pub planned_so : (seen : Seen) (n : ℕ) (fill : Fill) → IsShape (shape_of seen) → IsPlanOf seen n fill → IsPlanned seen n fill
planned_so seen n fill good plan_is =
    let shape = shape_of seen in
    let vcpu = seen.actor in
    let cpu = seen.local.cpu in
    let offers = plan_is.offers in
    let whole = plan offers vcpu cpu shape n in
    let all : All FitsRegister offers = All-weaker (IsFound seen) FitsRegister (λ offer found. fits_offer seen offer good found) offers plan_is.found.each in
    let standing = stands offers vcpu cpu shape n plan_is.few all plan_is.found.once in
    let right = λ (i : ℕ) (choice : Choice) (e : slice_index_or whole.choice i None ≡ Some choice). earned offers vcpu cpu shape n choice (among_places whole.choice i choice e) in
    let fitting = λ (i : ℕ) (choice : Choice) (e : slice_index_or whole.choice i None ≡ Some choice). All-contains FitsRegister offers (offer_of choice) all (right i choice e).offered in
    subst (IsPlanned seen n) (sym plan_is.is) (record {
      each = length-in_places _;
      right = λ i choice e. record { state = (right i choice e).state; both = both_deliverable offers vcpu cpu shape n choice (among_places whole.choice i choice e) };
      found = λ i choice e. All-contains (IsFound seen) offers (offer_of choice) plan_is.found.each (right i choice e).offered;
      stands = λ i choice e. stands_chosen choice (fitting i choice e) (right i choice e).whole;
      hw = λ i choice e. ap (λ choice. choice.entry.hw) (right i choice e).whole;
      fits = λ i choice e.
          let id : choice.entry.id ≡ intid_of choice.key = ap (λ choice. choice.entry.id) (right i choice e).whole in
          let prio : choice.entry.prio ≡ choice.irq.prio = ap (λ choice. choice.entry.prio) (right i choice e).whole in
          let id_less = (fitting i choice e).id in
          let prio_less = (fitting i choice e).prio in
          (omega (arith, id, id_less), omega (arith, prio, prio_less));
      once = λ j k one other is are e. once offers vcpu cpu shape n j k one other plan_is.found.once (at_place whole.choice j one is) (at_place whole.choice k other are) e;
      few = λ i more. none_held whole.choice i (standing.places.past i (omega (arith, length-take n (map word_of whole.choice), more)));
      enabled = standing.holds.enabled;
    })
