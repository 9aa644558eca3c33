-- The interrupts of a guest in key order, and those of a vCPU's index.
use Rattle.std.proofs.Common.{◌≡◌, ℕ, ◌+◌, ◌<◌, ◌≤◌, zero, suc, IsTrue, List, map, Contains, refl, sym, ap, subst, arith}
use Rattle.std.specs.List.{range_with_len}
use Rattle.std.proofs.lemmas.Grind.{common_steps}
use Rattle.law_serial_is_eager.specs.Words.{Key, Private, Spi, Lpi, GuestShape, has_interrupt, interrupt_count, is_of_vcpu, key_at, place_of, IsShape, Irq}
use Rattle.law_serial_is_eager.specs.GicIdeal.Shown.{offers_of}
use Rattle.law_serial_is_eager.proofs.GicOpen.KeyLemmas.{key_at_place, key_at_there, place_within}
use Rattle.law_serial_is_eager.proofs.LawHistories.SpreadSteps.{place_at}
use Rattle.law_serial_is_eager.specs.Histories.{IdealGuest, irq_at}
use Rattle.law_serial_is_eager.specs.Lists.{Offer}
use Rattle.law_serial_is_eager.proofs.VcpuRefill.ElementLemmas.{Contains-map, map_cases}
use Rattle.law_serial_is_eager.specs.Core.{index_bit}
use Rattle.law_serial_is_eager.proofs.LawAccessesShowHome.ListLemmas.{range_has, range_within}
use Rattle.law_entries_are_plans.proofs.RisingLemmas.{Rises}

-- an interrupt with a record, and with its record in a guest, and all of a guest's in key order
abbrev pub offer_as : Key → Irq → Offer
offer_as key irq = record { key = key; irq = irq }

abbrev pub offer_home : IdealGuest → Key → Offer
offer_home guest key = offer_as key (irq_at guest key)

abbrev pub offers_in : GuestShape → IdealGuest → List Offer
offers_in shape guest = map (λ place. offer_home guest (key_at shape place)) (range_with_len 0 (interrupt_count shape))

pub offers_are : (shape : GuestShape) (guest : IdealGuest) → guest.shape ≡ shape → offers_of guest ≡ offers_in shape guest
offers_are shape guest same = ap (λ s. offers_in s guest) same

abbrev pub place_in : GuestShape → Offer → ℕ
place_in shape offer = place_of shape offer.key

abbrev pub bit_in : GuestShape → Offer → ℕ
bit_in shape offer = index_bit shape offer.key

module _ (shape : GuestShape) (guest : IdealGuest) (good : IsShape shape) where
  rises_range : (a n : ℕ) → a + n ≤ interrupt_count shape → Rises (place_in shape) a (map (λ place. offer_home guest (key_at shape place)) (range_with_len a n))
  rises_range a zero few = tt
  rises_range a (suc n) few =
      let at = place_at shape a good (omega (arith, few)) in
      (omega (arith, at), subst (λ m. Rises (place_in shape) m (map (λ place. offer_home guest (key_at shape place)) (range_with_len (a + 1) n))) (ap (λ m. m + 1) (sym at)) (rises_range (a + 1) n (omega (arith, few))))

  pub offers_rise : Rises (place_in shape) 0 (offers_in shape guest)
  offers_rise = rises_range 0 (interrupt_count shape) (omega arith)

  pub has_offer : (key : Key) → IsTrue (has_interrupt shape key) → Contains (offers_in shape guest) (offer_home guest key)
  has_offer key there =
      subst (λ k. Contains (offers_in shape guest) (offer_home guest k)) (key_at_place shape key good there)
      (Contains-map (λ place. offer_home guest (key_at shape place)) (range_with_len 0 (interrupt_count shape)) (place_of shape key) (range_has (interrupt_count shape) (place_of shape key) (place_within shape key good there)))

  pub record IsOffer (offer : Offer) : Type 0 where
    pub there : IsTrue (has_interrupt shape offer.key)
    pub is : offer ≡ offer_home guest offer.key

  pub is_offer : (offer : Offer) → Contains (offers_in shape guest) offer → IsOffer offer
  is_offer offer h = of (map_cases (λ place. offer_home guest (key_at shape place)) (range_with_len 0 (interrupt_count shape)) offer h)
    where
      of : (place : ℕ) × Contains (range_with_len 0 (interrupt_count shape)) place × (offer_home guest (key_at shape place) ≡ offer) → IsOffer offer
      of (place, within, e) = subst IsOffer e (record { there = key_at_there shape place good (range_within (interrupt_count shape) place within); is = refl })

-- of two interrupts of a vCPU the one with the lower bit has the lower place
pub bits_and_places : (shape : GuestShape) (vcpu : ℕ) (one other : Key) → IsShape shape → vcpu < shape.vcpus → IsTrue (has_interrupt shape one) → IsTrue (has_interrupt shape other) → IsTrue (is_of_vcpu vcpu one) → IsTrue (is_of_vcpu vcpu other)
    → index_bit shape one < index_bit shape other → place_of shape one < place_of shape other
bits_and_places shape vcpu (Private v i) (Private w j) good few here there own too less = grind (arith, common_steps, own, too, less)
bits_and_places shape vcpu (Private v i) (Spi j) good few here there own too less = grind (arith, common_steps, here, there, own)
bits_and_places shape vcpu (Private v i) (Lpi j) good few here there own too less = grind (arith, common_steps, here, there, own)
bits_and_places shape vcpu (Spi i) (Private w j) good few here there own too less = absurd (grind (arith, common_steps, here, there, less))
bits_and_places shape vcpu (Spi i) (Spi j) good few here there own too less = grind (arith, common_steps, here, there, less)
bits_and_places shape vcpu (Spi i) (Lpi j) good few here there own too less = grind (arith, common_steps, here, there, less)
bits_and_places shape vcpu (Lpi i) (Private w j) good few here there own too less = absurd (grind (arith, common_steps, here, there, less))
bits_and_places shape vcpu (Lpi i) (Spi j) good few here there own too less = absurd (grind (arith, common_steps, here, there, less))
bits_and_places shape vcpu (Lpi i) (Lpi j) good few here there own too less = grind (arith, common_steps, here, there, less)
