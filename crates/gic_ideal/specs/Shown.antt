-- The list registers that a PE shows while a vCPU is loaded there. The ideal controller has none itself: they are the plan over its
-- records (own choice, over IHI 0069, "Usage model for the List registers").
use Rattle.std.specs.Prelude.{ℕ, List, ◌∷◌, map}
use Rattle.std.specs.List.{range_with_len}
use Rattle.ideal_guest.specs.Words.{interrupt_count, key_at}
use Rattle.vcpu_refill.specs.declared.offer.Offer.{Offer}
use Rattle.vcpu_refill.specs.Plan.{plan, words_of}
use Rattle.ideal_guest.specs.declared.guest.IdealGuest.{IdealGuest}
use Rattle.ideal_guest.specs.Ideal.{irq_at, cpu_at}

-- the interrupt at a place in key order, with its record
abbrev pub offer_at : IdealGuest → ℕ → Offer
offer_at guest place = let key = key_at guest.shape place in record { key = key; irq = irq_at guest key }

-- all interrupts of the guest
abbrev pub offers_of : IdealGuest → List Offer
offers_of guest = map (offer_at guest) (range_with_len 0 (interrupt_count guest.shape))

-- ICH_HCR, and then each of n list registers, with this vCPU
abbrev pub registers_of : ℕ → IdealGuest → ℕ → List ℕ
registers_of n guest vcpu = let fill = plan (offers_of guest) vcpu (cpu_at guest vcpu) guest.shape n in fill.hcr ∷ words_of fill n
