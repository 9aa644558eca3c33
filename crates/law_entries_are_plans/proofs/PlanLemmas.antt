-- The plan over what a scan found is the plan over the guest.
use Rattle.std.proofs.Common.{◌≡◌, ◌⊎◌, ℕ, ◌<◌, inl, inr, Bool, IsTrue, List, [], filter, Contains, sym, ap, ◌∙◌, subst}
use Rattle.law_serial_is_eager.specs.Words.{Key, GuestShape, has_interrupt, is_of_vcpu, IsShape}
use Rattle.law_serial_is_eager.specs.Lists.{IchRegs, Offer, is_active_by, is_deliverable_to, ordered, plan, plan_from, regs_of}
use Rattle.law_serial_is_eager.specs.Registers.{CpuRec}
use Rattle.law_serial_is_eager.specs.Histories.{IdealGuest, cpu_at}
use Rattle.law_serial_is_eager.proofs.VcpuRefill.ElementLemmas.{Contains-nothing}
use Rattle.law_serial_is_eager.specs.Core.{index_bit}
use Rattle.law_entries_are_plans.proofs.PlaceLemmas.{bit_in, bits_and_places, has_offer, is_offer, offer_home, offers_in, offers_rise, place_in}
use Rattle.law_entries_are_plans.proofs.RisingLemmas.{Rises, rises_too, same_filtered}

-- the plan looks at an interrupt: it is active by the vCPU, or deliverable to it
abbrev pub Passes : GuestShape → IdealGuest → ℕ → Key → Type 0
Passes shape guest vcpu key = IsTrue (is_active_by vcpu (offer_home guest key)) ⊎ IsTrue (is_deliverable_to vcpu (cpu_at guest vcpu) shape (offer_home guest key))

-- an interrupt that a vCPU's scan found as it is in the guest, below a bit of its index
pub record IsFound (shape : GuestShape) (guest : IdealGuest) (vcpu from : ℕ) (offer : Offer) : Type 0 where
  pub there : IsTrue (has_interrupt shape offer.key)
  pub own : IsTrue (is_of_vcpu vcpu offer.key)
  pub below : index_bit shape offer.key < from
  pub is : offer ≡ offer_home guest offer.key

-- so it found some, in the order of its index
pub record AreFound (shape : GuestShape) (guest : IdealGuest) (vcpu from : ℕ) (offers : List Offer) : Type 0 where
  pub each : (offer : Offer) → Contains offers offer → IsFound shape guest vcpu from offer
  pub rise : Rises (bit_in shape) 0 offers

pub none_found : (shape : GuestShape) (guest : IdealGuest) (vcpu from : ℕ) → AreFound shape guest vcpu from []
none_found shape guest vcpu from = record { each = λ offer h. absurd (Contains-nothing offer h); rise = tt }

-- registers that the plan over a guest fills
abbrev pub HasPlan : GuestShape → IdealGuest → ℕ → ℕ → IchRegs → Type 0
HasPlan shape guest vcpu n regs = regs ≡ regs_of (plan (offers_in shape guest) vcpu (cpu_at guest vcpu) shape n) (cpu_at guest vcpu) n

module _ (shape : GuestShape) (guest : IdealGuest) (vcpu from : ℕ) (good : IsShape shape) (few : vcpu < shape.vcpus) (offers : List Offer) (found : AreFound shape guest vcpu from offers) (all : (key : Key) → IsTrue (has_interrupt shape key) → Passes shape guest vcpu key → Contains offers (offer_home guest key)) where
  rise_by_place : Rises (place_in shape) 0 offers
  rise_by_place =
      rises_too (IsFound shape guest vcpu from) (bit_in shape) (place_in shape) (λ one other is also less. bits_and_places shape vcpu one.key other.key good few is.there also.there is.own also.own less) 0 offers found.each found.rise

  pub same_tested : (test : Offer → Bool) → ((key : Key) → IsTrue (test (offer_home guest key)) → Passes shape guest vcpu key) → filter test offers ≡ filter test (offers_in shape guest)
  same_tested test passes =
      same_filtered (place_in shape) test 0 0 offers (offers_in shape guest) rise_by_place (offers_rise shape guest good)
      (λ offer h there. let is = found.each offer there in subst (Contains (offers_in shape guest)) (sym is.is) (has_offer shape guest good offer.key is.there))
      (λ offer h there.
      let is = is_offer shape guest good offer there in
      subst (Contains offers) (sym is.is) (all offer.key is.there (passes offer.key (subst (λ o. IsTrue (test o)) is.is h))))

  pub same_plan : (n : ℕ) → plan offers vcpu (cpu_at guest vcpu) shape n ≡ plan (offers_in shape guest) vcpu (cpu_at guest vcpu) shape n
  same_plan n =
      ap (λ xs. plan_from (ordered xs) (ordered (filter (is_deliverable_to vcpu (cpu_at guest vcpu) shape) offers)) vcpu (cpu_at guest vcpu) shape n) (same_tested (is_active_by vcpu) (λ key h. inl h))
      ∙ ap (λ xs. plan_from (ordered (filter (is_active_by vcpu) (offers_in shape guest))) (ordered xs) vcpu (cpu_at guest vcpu) shape n) (same_tested (is_deliverable_to vcpu (cpu_at guest vcpu) shape) (λ key h. inr h))

  -- so it fills the registers
  pub fills : (cpu : CpuRec) (lrs n : ℕ) → cpu ≡ cpu_at guest vcpu → lrs ≡ n → HasPlan shape guest vcpu n (regs_of (plan offers vcpu cpu shape lrs) cpu lrs)
  fills cpu lrs n cpu_is lrs_is =
      ap (λ c. regs_of (plan offers vcpu c shape lrs) c lrs) cpu_is ∙ ap (λ m. regs_of (plan offers vcpu (cpu_at guest vcpu) shape m) (cpu_at guest vcpu) m) lrs_is
      ∙ ap (λ fill. regs_of fill (cpu_at guest vcpu) n) (same_plan n)
